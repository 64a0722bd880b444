-- What a desk means, and what its parts keep.
use Rattle.std.specs.Prelude.{◌≡◌, ◌≢◌, ℕ, ◌^◌, ◌<◌, ◌≤◌, Bool, true, false, Option, None, Some, List, [], ◌∷◌, ◌++◌, length, slice_index_or, Result, Err, IsOk, All}
use Rattle.std.specs.Option.{option_map}
use Rattle.probe_core.specs.declared.rule.Rule.{Rule}
use Rattle.probe_core.specs.Events.{memory_after}
use Rattle.desk_core.specs.declared.call.Call.{Call}
use Rattle.desk_core.specs.declared.call.Call.TheVariants.{Register, Retire, Observe, Set, Shutdown, Resume}
use Rattle.desk_core.specs.declared.change.Change.{Change}
use Rattle.desk_core.specs.declared.entry.Entry.{Entry}
use Rattle.desk_core.specs.declared.keep.Capacity.{Capacity}
use Rattle.desk_core.specs.declared.refusal.Refusal.{Refusal}
use Rattle.desk_core.specs.declared.refusal.Refusal.TheVariants.{NotStored}
use Rattle.desk_core.specs.declared.reply.Reply.{Reply}
use Rattle.desk_core.specs.Past.{past}
use Rattle.desk_core.specs.Shut.{is_shut}
use Rattle.desk_core.specs.Present.{rule_at}
use Rattle.desk_core.specs.Reply.{reply_to}
use Rattle.desk_core.specs.Heard.{heard}
use Rattle.desk_core.specs.Left.{Left, Moment, Begins, LeavesJournal, Holds, HasLeft, nothing_left}
use Rattle.desk_core.specs.Legal.{IsLegal}
use Rattle.desk_core.specs.Mutation.{IsAnswered, entry_of}
use Rattle.desk_core.specs.Changes.{changes_of}
use Rattle.desk_core.specs.Status.{status_at}
use Rattle.desk_core.specs.Board.{packed}
use Rattle.desk_core.specs.Cache.{HasDependents, Leaves}
use Rattle.tail.specs.Tail.{most_held}

-- a desk: its whole journal, the oldest entry first; how many entries it may have; for how many entries and status changes
-- there is memory; how many slots have memory for a probe; whether it has a store; and what a crash leaves of that
pub record State : Type 0 where
  pub journal : List Entry
  pub max_entries : ℕ
  pub capacity : Capacity
  pub places : ℕ
  pub is_stored : Bool
  pub left : Left

-- a new desk: it has no entry, has taken no memory, and has no store
abbrev pub new_desk : ℕ → State
new_desk max_entries = record {
  journal = [];
  max_entries = max_entries;
  capacity = record { entries = 0; changes = 0 };
  places = 0;
  is_stored = false;
  left = nothing_left;
}

-- the same desk with a store, of which a crash leaves this
abbrev pub with_store : State → Left → State
with_store desk left = record {
  journal = desk.journal;
  max_entries = desk.max_entries;
  capacity = desk.capacity;
  places = desk.places;
  is_stored = true;
  left = left;
}

-- a desk has all the memory that it may take: its two lists, which keep so many entries and status changes, and its slots
pub record HasAllMemory (kept : ℕ) (desk : State) : Type 0 where
  pub entries : desk.capacity.entries ≡ most_held kept
  pub changes : desk.capacity.changes ≡ most_held kept
  pub places : 16 ≤ desk.places

-- a desk that forgets has all the memory that it may take; one that keeps all never has
abbrev pub IsAtLimit : Option ℕ → State → Type 0
IsAtLimit None desk = ⊥
IsAtLimit (Some kept) desk = HasAllMemory kept desk

-- a desk has given no memory back
pub record HoldsMemory (old new : State) : Type 0 where
  pub entries : old.capacity.entries ≤ new.capacity.entries
  pub changes : old.capacity.changes ≤ new.capacity.changes
  pub places : old.places ≤ new.places

-- the probe of a registered slot: the rule in force, and the memory of the events that it heard
abbrev pub probe_at : List Entry → ℕ → Option (Rule × ℕ)
probe_at entries i = option_map (λ rule. (rule, memory_after rule (heard entries i rule))) (rule_at entries i)

-- the probe of the slot that a registration or a retirement is of
abbrev pub probe_of : List Entry → Call → Option (Rule × ℕ)
probe_of entries (Register slot rule) = probe_at entries slot
probe_of entries (Retire slot) = probe_at entries slot
probe_of entries (Observe slot finding) = None
probe_of entries (Set slot setting) = None
probe_of entries Shutdown = None
probe_of entries Resume = None

-- What a change whose entry would be this one does to the store, if there is one. At no moment of it did a crash leave anything but what
-- one might have left before, the journal, or the journal with this entry; behind it a crash takes nothing back, and where the change
-- was made it leaves the journal with its entry alone. A change that is refused for another cause leaves the store as it was
pub record HasStored (old new : State) (entry : Entry) (result : Result Reply Refusal) : Type 0 where
  pub same : new.is_stored ≡ old.is_stored
  pub crash : HasLeft old.left new.left old.journal (old.journal ++ entry ∷ [])
  pub kept : Holds new.left new.journal
  pub durable : IsOk result → LeavesJournal new.left new.journal
  pub spared : (refusal : Refusal) → result ≡ Err refusal → refusal ≢ NotStored → new.left ≡ old.left
  pub unstored : old.is_stored ≡ false → result ≢ Err NotStored

-- a desk answers a mutation that a seat asks it for
pub record HasAnswered (old new : State) (seat : ℕ) (call : Call) (result : Result Reply Refusal) : Type 0 where
  pub most : new.max_entries ≡ old.max_entries
  pub answer : IsAnswered old.max_entries seat (past old.journal) (past new.journal) (Some call) result
  pub stored : HasStored old new (entry_of seat call (reply_to (past old.journal) call)) result

-- what a desk's parts keep: the journal is legal, and the probes are those that it says
pub record Keeps (slots : List (Option (Rule × ℕ))) (shut : Bool) (journal : List Entry) (max_entries : ℕ) : Type 0 where
  pub legal : IsLegal (past journal)
  pub shut_is : shut ≡ is_shut (past journal)
  pub each : (i : ℕ) → i < 16 → slice_index_or slots i None ≡ probe_at (past journal) i
  pub room : length journal ≤ max_entries
  pub limit : max_entries < 2 ^ 32

-- what a desk keeps: its parts, the list of what the journal changed, the statuses that it led to, and for each slot the
-- registered slots that depend on it
pub record IsDesk (slots : List (Option (Rule × ℕ))) (shut : Bool) (journal : List Entry) (changes : List Change) (statuses : ℕ) (dependents : List ℕ) (max_entries : ℕ) : Type 0 where
  pub parts : Keeps slots shut journal max_entries
  pub told : changes ≡ changes_of (past journal)
  pub cached : statuses ≡ packed (status_at (past journal)) 16
  pub related : HasDependents (rule_at (past journal)) dependents

-- a word of statuses was made new after a change that touched these slots: where it was that of the journal for which the old
-- probes were kept, it is that of the journal for which the probes are kept now
abbrev pub IsShown : ℕ → List (Option (Rule × ℕ)) → Bool → List ℕ → ℕ → ℕ → Type 0
IsShown touched slots shut dependents old new = (was : List (Option (Rule × ℕ))) (was_shut : Bool) (older journal : List Entry) (max_entries : ℕ)
    → Keeps was was_shut older max_entries → Keeps slots shut journal max_entries → HasDependents (rule_at (past journal)) dependents
    → Leaves touched was was_shut slots shut → old ≡ packed (status_at (past older)) 16 → new ≡ packed (status_at (past journal)) 16

-- a desk answers a mutation that some seat asks it for
abbrev pub HasAnsweredAny : State → State → Option Call → Result Reply Refusal → Type 0
HasAnsweredAny old new None result = ⊥
HasAnsweredAny old new (Some call) result = (seat : ℕ) × HasAnswered old new seat call result

-- between these two states of a desk no crash took anything back of the journal that it began with, and none does now
pub record TakesNothingBack (old new : State) : Type 0 where
  pub more : List Moment
  pub ever : new.left.ever ≡ more ++ old.left.ever
  pub since : All (λ moment. Begins old.journal moment.left) more
  pub now : All (Begins old.journal) new.left.now
