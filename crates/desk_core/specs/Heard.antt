-- What a registered service has heard.
use Rattle.std.specs.Prelude.{ℕ, ◌==◌, ◌&&◌, not, Bool, true, false, if◌then◌else◌, Option, None, Some, List, [], ◌∷◌}
use Rattle.probe_core.specs.declared.event.Event.{Event}
use Rattle.probe_core.specs.declared.event.Event.TheVariants as events
use Rattle.probe_core.specs.declared.rule.Rule.{Rule}
use Rattle.probe_core.specs.Rule.{fits}
use Rattle.desk_core.specs.declared.call.Call.{Call}
use Rattle.desk_core.specs.declared.call.Call.TheVariants.{Register, Retire, Observe, Set, Shutdown, Resume}
use Rattle.desk_core.specs.declared.call.Finding.{Finding}
use Rattle.desk_core.specs.declared.call.Finding.TheVariants.{Pass, Fail}
use Rattle.desk_core.specs.declared.call.Setting.{Setting}
use Rattle.desk_core.specs.declared.call.Setting.TheVariants.{Up, Down}
use Rattle.desk_core.specs.declared.entry.Entry.{Entry}
use Rattle.desk_core.specs.Shut.{is_shut}

-- a finding as an event
abbrev pub event_of_finding : Finding → Event
event_of_finding Pass = events.Pass
event_of_finding Fail = events.Fail

-- a setting as an event
abbrev pub event_of_setting : Setting → Event
event_of_setting Up = events.Up
event_of_setting Down = events.Down

-- the event that a call brings to a slot
abbrev pub event_for : ℕ → Call → Option Event
event_for i (Register slot rule) = None
event_for i (Retire slot) = None
event_for i (Observe slot finding) = if slot == i then Some (event_of_finding finding) else None
event_for i (Set slot setting) = if slot == i then Some (event_of_setting setting) else None
event_for i Shutdown = None
event_for i Resume = None

-- a Register of the slot, and each Resume, makes it forget what it heard
abbrev pub forgets : ℕ → Call → Bool
forgets i (Register slot rule) = slot == i
forgets i (Retire slot) = false
forgets i (Observe slot finding) = false
forgets i (Set slot setting) = false
forgets i Shutdown = false
forgets i Resume = true

-- an event is heard where the server is not shut down and the rule follows such events
abbrev pub with_event : Rule → Bool → Option Event → List Event → List Event
with_event rule shut None events = events
with_event rule shut (Some event) events = if not shut && fits rule event then event ∷ events else events

-- what a slot of this rule has heard since it last forgot, the newest first
abbrev pub heard : List Entry → ℕ → Rule → List Event
heard [] i rule = []
heard (entry ∷ older) i rule =
    if forgets i entry.call then [] else with_event rule (is_shut older) (event_for i entry.call) (heard older i rule)
