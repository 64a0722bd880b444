-- What one change makes of the probe of a slot, and the reply that it has. This is how a digest keeps what it promises, and no part of
-- the promise.
use Rattle.std.specs.Prelude.{ℕ, ◌==◌, ◌&&◌, not, Bool, if◌then◌else◌, Option, None, Some, is_some, List, slice_index_or}
use Rattle.probe_core.specs.declared.rule.Rule.{Rule}
use Rattle.probe_core.specs.Rule.{opening_memory}
use Rattle.desk_core.specs.declared.call.Call.{Call}
use Rattle.desk_core.specs.declared.call.Call.TheVariants.{Register, Retire, Observe, Set, Shutdown, Resume}
use Rattle.desk_core.specs.declared.reply.Reply.{Reply}
use Rattle.desk_core.specs.declared.reply.Reply.TheVariants.{Done, Replaced, Missing}
use Rattle.desk_core.specs.Heard.{event_of_finding, event_of_setting}
use Rattle.desk_core.specs.Reply.{reply_to_event}
use Rattle.desk_core.specs.Slots.{noted, was_reset}

-- the probe of slot i after a change, where the server was shut down before it or was not
abbrev pub probe_next : Bool → ℕ → Call → Option (Rule × ℕ) → Option (Rule × ℕ)
probe_next shut i (Register slot rule) probe = if slot == i then Some (rule, opening_memory rule) else probe
probe_next shut i (Retire slot) probe = if slot == i then None else probe
probe_next shut i (Observe slot finding) probe = if slot == i && not shut then noted (event_of_finding finding) probe else probe
probe_next shut i (Set slot setting) probe = if slot == i && not shut then noted (event_of_setting setting) probe else probe
probe_next shut i Shutdown probe = probe
probe_next shut i Resume probe = was_reset probe

-- the rule of a probe
abbrev pub rule_of : Option (Rule × ℕ) → Option Rule
rule_of None = None
rule_of (Some probe) = Some probe.0

-- the reply to a change, by the probes of the slots
abbrev pub reply_by : List (Option (Rule × ℕ)) → Bool → Call → Reply
reply_by probes shut (Register slot rule) = if is_some (slice_index_or probes slot None) then Replaced else Done
reply_by probes shut (Retire slot) = if is_some (slice_index_or probes slot None) then Done else Missing
reply_by probes shut (Observe slot finding) = reply_to_event (rule_of (slice_index_or probes slot None)) shut (event_of_finding finding)
reply_by probes shut (Set slot setting) = reply_to_event (rule_of (slice_index_or probes slot None)) shut (event_of_setting setting)
reply_by probes shut Shutdown = Done
reply_by probes shut Resume = Done
