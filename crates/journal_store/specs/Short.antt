-- The short history of a digest, while it is made. This is how a digest keeps what it promises, and no part of the promise. A history
-- has its newest entry first, and so have events.
use Rattle.std.specs.Prelude.{◌≡◌, ℕ, zero, suc, ◌+◌, ◌*◌, ◌==◌, if◌then◌else◌, [], replicate, ◌<◌, ◌≤◌, true, false, Option, None, Some, List, ◌∷◌, ◌++◌, map, length, slice_index_or, All}
use Rattle.probe_core.specs.declared.event.Event.{Event}
use Rattle.probe_core.specs.declared.event.Event.TheVariants.{Pass, Fail, Up, Down}
use Rattle.probe_core.specs.declared.rule.Rule.{Rule}
use Rattle.probe_core.specs.declared.rule.Rule.TheVariants.{Threshold}
use Rattle.probe_core.specs.declared.start.Start.{Start}
use Rattle.probe_core.specs.Events.{all_fit, memory_after}
use Rattle.desk_core.specs.declared.call.Call.{Call}
use Rattle.desk_core.specs.declared.call.Call.TheVariants.{Register, Retire, Observe, Set, Shutdown, Resume}
use Rattle.desk_core.specs.declared.call.Finding.TheVariants as findings
use Rattle.desk_core.specs.declared.call.Setting.TheVariants as settings
use Rattle.desk_core.specs.declared.entry.Entry.{Entry}
use Rattle.desk_core.specs.declared.reply.Reply.TheVariants.{Done}
use Rattle.desk_core.specs.Mutation.{entry_of}
use Rattle.desk_core.specs.Present.{IsLawful}
use Rattle.desk_core.specs.Shut.{is_shut}
use Rattle.desk_core.specs.Legal.{IsLegal}
use Rattle.desk_core.specs.Desk.{probe_at}

-- an entry of seat 0 that was answered Done
abbrev pub done : Call → Entry
done call = entry_of 0 call Done

-- the change that brings an event to a slot
abbrev pub bringing : ℕ → Event → Call
bringing slot Pass = Observe slot findings.Pass
bringing slot Fail = Observe slot findings.Fail
bringing slot Up = Set slot settings.Up
bringing slot Down = Set slot settings.Down

-- the memory is what some events that fit the rule come to
pub record IsMemory (rule : Rule) (memory : ℕ) : Type 0 where
  pub events : List Event
  pub fit : all_fit rule events ≡ true
  pub is : memory ≡ memory_after rule events

-- the probe of slot i can be this one, if there is one: its rule may be registered there, and its memory is one of the rule
pub record CanStand (i : ℕ) (probe : Rule × ℕ) : Type 0 where
  pub lawful : IsLawful i probe.0
  pub memory : IsMemory probe.0 probe.1

-- each of the probes can be that of its slot
abbrev pub AllCanStand : List (Option (Rule × ℕ)) → Type 0
AllCanStand probes = (i : ℕ) (probe : Rule × ℕ) → slice_index_or probes i None ≡ Some probe → CanStand i probe

-- so many failures, and then so many passes, give a threshold this memory. They are no more than its two numbers together, and no fewer
-- findings give it
pub record AreFindings (fall rise memory : ℕ) (start : Start) (fails passes : ℕ) : Type 0 where
  pub gives : memory_after (Threshold fall rise start) (replicate passes Pass ++ replicate fails Fail) ≡ memory
  pub few : fails + passes ≤ fall + rise
  pub fewest : (events : List Event) → all_fit (Threshold fall rise start) events ≡ true → memory_after (Threshold fall rise start) events ≡ memory
      → fails + passes ≤ length events

-- the newer history goes on from the older with entries that bring events to a slot: the fewest that come to the memory of this probe
pub record IsBrought (slot : ℕ) (probe : Rule × ℕ) (older newer : List Entry) : Type 0 where
  pub events : List Event
  pub few : length events ≤ 2000
  pub fit : all_fit probe.0 events ≡ true
  pub memory : memory_after probe.0 events ≡ probe.1
  pub fewest : (other : List Event) → all_fit probe.0 other ≡ true → memory_after probe.0 other ≡ probe.1 → length events ≤ length other
  pub entries : newer ≡ map (λ event. done (bringing slot event)) events ++ older

-- the slot that a change names, if it names one
abbrev pub slot_named : Call → Option ℕ
slot_named (Register slot rule) = Some slot
slot_named (Retire slot) = Some slot
slot_named (Observe slot finding) = Some slot
slot_named (Set slot setting) = Some slot
slot_named Shutdown = None
slot_named Resume = None

-- 1 where it is slot i
abbrev pub names : ℕ → Option ℕ → ℕ
names i None = 0
names i (Some slot) = if slot == i then 1 else 0

-- how many entries name slot i
abbrev pub naming : ℕ → List Entry → ℕ
naming i [] = 0
naming i (entry ∷ older) = names i (slot_named entry.call) + naming i older

-- how many name a slot below the n-th
unfoldable pub naming_below : ℕ → List Entry → ℕ
naming_below zero entries = 0
naming_below (suc n) entries = naming_below n entries + naming n entries

-- a history makes the probes of the slots below the n-th, and no others, with the fewest entries
pub record IsMade (probes : List (Option (Rule × ℕ))) (n : ℕ) (history : List Entry) : Type 0 where
  pub legal : IsLegal history
  pub running : is_shut history ≡ false
  pub made : (i : ℕ) → i < n → probe_at history i ≡ slice_index_or probes i None
  pub rest : (i : ℕ) → n ≤ i → probe_at history i ≡ None
  pub seats : All (λ entry. entry.seat ≡ 0) history
  pub few : length history ≤ n * 2001
  pub fewest : (other : List Entry) → ((i : ℕ) → i < n → probe_at other i ≡ slice_index_or probes i None) → length history ≤ naming_below n other
