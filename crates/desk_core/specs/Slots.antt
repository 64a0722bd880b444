-- What the slots hold: for each a probe, seen as its rule and its memory, or none. A slot past the end has none. This is how
-- a desk keeps what it promises, and no part of the promise.
use Rattle.std.specs.Prelude.{◌≡◌, ◌≢◌, ℕ, zero, suc, ◌^◌, ◌<◌, ◌==◌, ◌&&◌, ◌||◌, not, Bool, true, if◌then◌else◌, Option, None, Some, unwrap_or, List, map, length, slice_index_or, slice_set}
use Rattle.health_wire.specs.declared.serving.Serving.{Serving}
use Rattle.health_wire.specs.declared.serving.Serving.TheVariants.{Unknown, NotServing, ServiceUnknown}
use Rattle.probe_core.specs.declared.event.Event.{Event}
use Rattle.probe_core.specs.declared.rule.Rule.{Rule}
use Rattle.probe_core.specs.Rule.{is_unknown_at, is_up_at, memory_next, opening_memory, relied_on}
use Rattle.desk_core.specs.declared.call.Call.{Call}
use Rattle.desk_core.specs.declared.call.Call.TheVariants.{Register, Retire, Observe, Set, Shutdown, Resume}
use Rattle.desk_core.specs.declared.reply.Reply.{Reply}
use Rattle.desk_core.specs.declared.reply.Reply.TheVariants.{Done}
use Rattle.desk_core.specs.Heard.{event_of_finding, event_of_setting}
use Rattle.desk_core.specs.Status.{has_slot, is_serving, serving_if}
use Rattle.desk_core.specs.Board.{status_in}

-- each slot holds what it held
abbrev pub HasSame : List (Option (Rule × ℕ)) → List (Option (Rule × ℕ)) → Type 0
HasSame old new = (i : ℕ) → slice_index_or new i None ≡ slice_index_or old i None

-- the slot whose probe a call takes out is one of the sixteen
abbrev pub TakesFromSlot : Call → Type 0
TakesFromSlot (Register slot rule) = slot < 16
TakesFromSlot (Retire slot) = slot < 16
TakesFromSlot (Observe slot finding) = Unit {0}
TakesFromSlot (Set slot setting) = Unit {0}
TakesFromSlot Shutdown = Unit {0}
TakesFromSlot Resume = Unit {0}

-- a probe that heard one more event
abbrev pub noted : Event → Option (Rule × ℕ) → Option (Rule × ℕ)
noted event None = None
noted event (Some state) = Some (state.0, memory_next state.0 event state.1)

-- a probe in its opening state
abbrev pub was_reset : Option (Rule × ℕ) → Option (Rule × ℕ)
was_reset None = None
was_reset (Some state) = Some (state.0, opening_memory state.0)

-- a slot heard an event, where the answer was Done
pub record IsHeard (slot : ℕ) (event : Event) (reply : Reply) (old new : List (Option (Rule × ℕ))) : Type 0 where
  pub done : reply ≡ Done → new ≡ slice_set old slot (noted event (slice_index_or old slot None))
  pub others : reply ≢ Done → new ≡ old

-- what a change that had this reply does to the probes
abbrev pub IsApplied : Call → Reply → List (Option (Rule × ℕ)) → List (Option (Rule × ℕ)) → Type 0
IsApplied (Register slot rule) reply old new = (slot < length old) × (new ≡ slice_set old slot (Some (rule, opening_memory rule)))
IsApplied (Retire slot) reply old new = new ≡ slice_set old slot None
IsApplied (Observe slot finding) reply old new = IsHeard slot (event_of_finding finding) reply old new
IsApplied (Set slot setting) reply old new = IsHeard slot (event_of_setting setting) reply old new
IsApplied Shutdown reply old new = new ≡ old
IsApplied Resume reply old new = new ≡ map was_reset old

-- what stands in the slot that a registration or a retirement is of
abbrev pub held_at : List (Option (Rule × ℕ)) → Call → Option (Rule × ℕ)
held_at slots (Register slot rule) = slice_index_or slots slot None
held_at slots (Retire slot) = slice_index_or slots slot None
held_at slots (Observe slot finding) = None
held_at slots (Set slot setting) = None
held_at slots Shutdown = None
held_at slots Resume = None

-- the slots whose status a change may change by itself, as the bits of a mask
abbrev pub touched : Call → ℕ
touched (Register slot rule) = 2 ^ slot
touched (Retire slot) = 2 ^ slot
touched (Observe slot finding) = 2 ^ slot
touched (Set slot setting) = 2 ^ slot
touched Shutdown = 65535
touched Resume = 65535

-- each slot of the mask below the n-th has a status that is serving
unfoldable pub covers_below : (ℕ → Option Serving) → ℕ → ℕ → Bool
covers_below statuses zero mask = true
covers_below statuses (suc n) mask = covers_below statuses n mask && (not (has_slot mask n) || is_serving (statuses n))

-- what a service's rule says of it, by the memory of its probe and by whether the slots of a mask are all serving: that it is unknown,
-- serving, or not serving
abbrev pub opinion_at : (ℕ → Bool) → Rule → ℕ → Serving
opinion_at covers rule memory = if is_unknown_at rule memory then Unknown else serving_if (is_up_at rule memory && covers (relied_on rule))

-- the status of a registered service, by its probe
abbrev pub status_from : (ℕ → Bool) → Bool → Rule × ℕ → Serving
status_from covers shut state = if shut then NotServing else opinion_at covers state.0 state.1

-- the same statuses, but for one slot
abbrev pub with_status : (ℕ → Option Serving) → ℕ → Option Serving → ℕ → Option Serving
with_status statuses slot status i = if i == slot then status else statuses i

-- what a watcher of a slot is shown, by a word of statuses
abbrev pub shown_in : ℕ → ℕ → Serving
shown_in word i = unwrap_or (status_in word i) ServiceUnknown
