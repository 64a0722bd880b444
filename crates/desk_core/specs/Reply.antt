-- How a change is answered, by the history before it.
use Rattle.std.specs.Prelude.{Bool, if◌then◌else◌, Option, None, Some, List}
use Rattle.probe_core.specs.declared.event.Event.{Event}
use Rattle.probe_core.specs.declared.rule.Rule.{Rule}
use Rattle.probe_core.specs.Rule.{fits}
use Rattle.desk_core.specs.declared.call.Call.{Call}
use Rattle.desk_core.specs.declared.call.Call.TheVariants.{Register, Retire, Observe, Set, Shutdown, Resume}
use Rattle.desk_core.specs.declared.entry.Entry.{Entry}
use Rattle.desk_core.specs.declared.reply.Reply.{Reply}
use Rattle.desk_core.specs.declared.reply.Reply.TheVariants.{Done, Replaced, Missing, WrongKind, Ignored}
use Rattle.desk_core.specs.Shut.{is_shut}
use Rattle.desk_core.specs.Present.{rule_at, is_present}
use Rattle.desk_core.specs.Heard.{event_of_finding, event_of_setting}

-- the answer to an event, for a slot of this rule or of none
abbrev pub reply_to_event : Option Rule → Bool → Event → Reply
reply_to_event None shut event = Missing
reply_to_event (Some rule) shut event = if fits rule event then (if shut then Ignored else Done) else WrongKind

-- the answer to a change
abbrev pub reply_to : List Entry → Call → Reply
reply_to entries (Register slot rule) = if is_present entries slot then Replaced else Done
reply_to entries (Retire slot) = if is_present entries slot then Done else Missing
reply_to entries (Observe slot finding) = reply_to_event (rule_at entries slot) (is_shut entries) (event_of_finding finding)
reply_to entries (Set slot setting) = reply_to_event (rule_at entries slot) (is_shut entries) (event_of_setting setting)
reply_to entries Shutdown = Done
reply_to entries Resume = Done
