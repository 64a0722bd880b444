-- Why a service has its status: the newest entry that made it so. It is what an operator asks for first.
use Rattle.std.specs.Prelude.{ℕ, zero, suc, ◌==◌, ◌&&◌, ◌||◌, nat_le, not, Bool, false, if◌then◌else◌, Option, None, Some, List, [], ◌∷◌, length}
use Rattle.std.specs.List.{prefix_len}
use Rattle.std.specs.Option.{option_or}
use Rattle.health_wire.specs.declared.serving.Serving.{Serving}
use Rattle.health_wire.specs.declared.serving.Serving.TheVariants.{Unknown, NotServing, ServiceUnknown, Serving as IsServing}
use Rattle.probe_core.specs.declared.event.Event.{Event}
use Rattle.probe_core.specs.declared.rule.Rule.{Rule}
use Rattle.probe_core.specs.declared.rule.Rule.TheVariants.{Threshold, Manual, Depends}
use Rattle.probe_core.specs.Events.{is_fail, is_pass, is_up_setting}
use Rattle.desk_core.specs.declared.call.Call.{Call}
use Rattle.desk_core.specs.declared.call.Call.TheVariants.{Register, Retire, Observe, Set, Shutdown, Resume}
use Rattle.desk_core.specs.declared.entry.Entry.{Entry}
use Rattle.desk_core.specs.declared.reason.Cause.{Cause}
use Rattle.desk_core.specs.declared.reason.Reason.{Reason}
use Rattle.desk_core.specs.declared.reason.Reason.TheVariants as reasons
use Rattle.desk_core.specs.Heard.{event_for, forgets, heard}
use Rattle.desk_core.specs.Present.{rule_at}
use Rattle.desk_core.specs.Shut.{is_shut}
use Rattle.desk_core.specs.Silence.{is_done}
use Rattle.desk_core.specs.Status.{has_slot, is_serving, status_at}
use Rattle.tail.specs.Tail.{forgotten}

-- the place of the newest entry of which this holds, with those before it
abbrev pub newest : (Entry → List Entry → Bool) → List Entry → Option ℕ
newest holds [] = None
newest holds (entry ∷ older) = if holds entry older then Some (length older) else newest holds older

-- the same of those since a slot last forgot what it heard
abbrev pub newest_since : ℕ → (Entry → List Entry → Bool) → List Entry → Option ℕ
newest_since i holds [] = None
newest_since i holds (entry ∷ older) = if holds entry older then Some (length older) else (if forgets i entry.call then None else newest_since i holds older)

-- the entry shut the server down
abbrev pub shuts : Entry → List Entry → Bool
shuts entry older = is_shut (entry ∷ [])

-- a call asks for the retirement of a slot
abbrev pub asks_retired : ℕ → Call → Bool
asks_retired i (Register slot rule) = false
asks_retired i (Retire slot) = slot == i
asks_retired i (Observe slot finding) = false
asks_retired i (Set slot setting) = false
asks_retired i Shutdown = false
asks_retired i Resume = false

-- the entry retired a slot
abbrev pub retires : ℕ → Entry → List Entry → Bool
retires i entry older = asks_retired i entry.call && is_done entry.reply

-- the entry had a slot forget what it heard
abbrev pub forgets_all : ℕ → Entry → List Entry → Bool
forgets_all i entry older = forgets i entry.call

-- an event is of this kind
abbrev pub brings : (Event → Bool) → Option Event → Bool
brings is None = false
brings is (Some event) = is event

-- how many failures in a row a slot of this rule heard last
abbrev pub fails_in_row : List Entry → ℕ → Rule → ℕ
fails_in_row entries i rule = prefix_len is_fail (heard entries i rule)

-- the same of passes
abbrev pub passes_in_row : List Entry → ℕ → Rule → ℕ
passes_in_row entries i rule = prefix_len is_pass (heard entries i rule)

-- The entry took a slot of this rule down: it is a failure that was heard, behind which so many stand in a row, or it set the slot down
abbrev pub takes_down : Rule → ℕ → Entry → List Entry → Bool
takes_down (Threshold fall rise start) i entry older =
    brings is_fail (event_for i entry.call) && (is_done entry.reply && nat_le fall (fails_in_row (entry ∷ older) i (Threshold fall rise start)))
takes_down Manual i entry older = brings (λ event. not (is_up_setting event)) (event_for i entry.call) && is_done entry.reply
takes_down (Depends mask) i entry older = false

-- the newest entry that took a slot down since it last forgot
abbrev pub down_since : List Entry → ℕ → Rule → Option ℕ
down_since entries i rule = newest_since i (takes_down rule i) entries

-- a slot, if it is in the mask and not serving
abbrev pub if_down : (ℕ → Option Serving) → ℕ → ℕ → Option ℕ
if_down statuses mask i = if not (has_slot mask i) || is_serving (statuses i) then None else Some i

-- of the slots of a mask below the n-th the first that is not serving
unfoldable pub first_down : (ℕ → Option Serving) → ℕ → ℕ → Option ℕ
first_down statuses mask zero = None
first_down statuses mask (suc n) = option_or (first_down statuses mask n) (if_down statuses mask n)

-- an entry is named by its place, and by whether it is kept
abbrev pub named : Option ℕ → List Entry → Option ℕ → Cause
named kept entries None = record { place = 0; is_kept = false }
named kept entries (Some place) = record { place = place; is_kept = nat_le (forgotten kept (length entries)) place }

-- a slot that is not registered was retired, or never registered
abbrev pub absent_by : Option ℕ → List Entry → Option ℕ → Reason
absent_by kept entries None = reasons.NeverRegistered
absent_by kept entries (Some place) = reasons.Retired (named kept entries (Some place))

-- one that depends on others is not serving since one of these is not: there is one, as a law says
abbrev pub depends_by : Option ℕ → Reason
depends_by None = reasons.Serving
depends_by (Some slot) = reasons.DependsOn slot

-- why a slot of this rule is not serving while the server is not shut down
abbrev pub down_by : Option ℕ → List Entry → ℕ → Rule → Reason
down_by kept entries i (Threshold fall rise start) =
    reasons.Failed fall (named kept entries (down_since entries i (Threshold fall rise start))) (passes_in_row entries i (Threshold fall rise start)) rise
down_by kept entries i Manual = reasons.SetDown (named kept entries (down_since entries i Manual))
down_by kept entries i (Depends mask) = depends_by (first_down (status_at entries) mask 16)

-- why a slot that is not serving is so
abbrev pub not_serving_by : Option ℕ → List Entry → ℕ → Option Rule → Reason
not_serving_by kept entries i None = absent_by kept entries (newest (retires i) entries)
not_serving_by kept entries i (Some rule) = if is_shut entries then reasons.ShutDown (named kept entries (newest shuts entries)) else down_by kept entries i rule

-- why a slot has this status
abbrev pub reason_by : Option ℕ → List Entry → ℕ → Option Serving → Reason
reason_by kept entries i None = absent_by kept entries (newest (retires i) entries)
reason_by kept entries i (Some IsServing) = reasons.Serving
reason_by kept entries i (Some Unknown) = reasons.Unheard (named kept entries (newest (forgets_all i) entries))
reason_by kept entries i (Some NotServing) = not_serving_by kept entries i (rule_at entries i)
reason_by kept entries i (Some ServiceUnknown) = not_serving_by kept entries i (rule_at entries i)

-- the reason for the status of a slot
abbrev pub reason_at : Option ℕ → List Entry → ℕ → Reason
reason_at kept entries i = reason_by kept entries i (status_at entries i)

-- the status that a reason is one for
abbrev pub status_by_reason : Reason → Option Serving
status_by_reason reasons.Serving = Some IsServing
status_by_reason (reasons.ShutDown cause) = Some NotServing
status_by_reason (reasons.DependsOn slot) = Some NotServing
status_by_reason (reasons.Failed fails cause passes rise) = Some NotServing
status_by_reason (reasons.SetDown cause) = Some NotServing
status_by_reason (reasons.Unheard cause) = Some Unknown
status_by_reason (reasons.Retired cause) = None
status_by_reason reasons.NeverRegistered = None
