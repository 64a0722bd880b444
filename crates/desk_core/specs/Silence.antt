-- When silence is a failure: which entries begin the time of a service anew, and when a fail that nobody reported is to be made. It is the
-- freshness checking of Nagios, and the check with a time to live of Consul.
use Rattle.std.specs.Prelude.{ℕ, ◌==◌, ◌&&◌, ◌||◌, not, nat_le, Bool, true, false, Option, None, Some, List, length, drop}
use Rattle.std.specs.List.{list_any}
use Rattle.probe_core.specs.declared.rule.Rule.{Rule}
use Rattle.probe_core.specs.declared.rule.Rule.TheVariants.{Threshold, Manual, Depends}
use Rattle.probe_core.specs.Rule.{is_unknown_at}
use Rattle.desk_core.specs.declared.call.Call.{Call}
use Rattle.desk_core.specs.declared.call.Call.TheVariants.{Register, Retire, Observe, Set, Shutdown, Resume}
use Rattle.desk_core.specs.declared.entry.Entry.{Entry}
use Rattle.desk_core.specs.declared.reply.Reply.{Reply}
use Rattle.desk_core.specs.declared.reply.Reply.TheVariants.{Done, Replaced, Missing, WrongKind, Ignored}
use Rattle.desk_core.specs.Past.{past}
use Rattle.desk_core.specs.Shut.{is_shut}
use Rattle.desk_core.specs.Desk.{probe_at}
use Rattle.tail.specs.Tail.{forgotten}

-- the rule follows findings
abbrev pub follows_findings : Rule → Bool
follows_findings (Threshold fall rise start) = true
follows_findings Manual = false
follows_findings (Depends mask) = false

-- the change was made as it was asked for
abbrev pub is_done : Reply → Bool
is_done Done = true
is_done Replaced = false
is_done Missing = false
is_done WrongKind = false
is_done Ignored = false

-- the change begins a slot's time anew: a report, where it counts as one; a registration by a rule that follows findings; and each resume
abbrev pub begins_by : Bool → ℕ → Call → Bool
begins_by counts i (Register slot rule) = slot == i && follows_findings rule
begins_by counts i (Retire slot) = false
begins_by counts i (Observe slot finding) = slot == i && counts
begins_by counts i (Set slot setting) = false
begins_by counts i Shutdown = false
begins_by counts i Resume = true

-- the change ends what is expected of a slot: it is retired, or registered by a rule that follows no findings
abbrev pub ends_by : ℕ → Call → Bool
ends_by i (Register slot rule) = slot == i && not (follows_findings rule)
ends_by i (Retire slot) = slot == i
ends_by i (Observe slot finding) = false
ends_by i (Set slot setting) = false
ends_by i Shutdown = false
ends_by i Resume = false

-- the entry begins a slot's time anew: a report counts that was taken, and is not of this seat, which makes the fails that nobody reported
abbrev pub begins : ℕ → ℕ → Entry → Bool
begins seat i entry = begins_by (not (entry.seat == seat) && is_done entry.reply) i entry.call

abbrev pub ends : ℕ → Entry → Bool
ends i entry = ends_by i entry.call

-- the entry does one of both
abbrev pub retimes : ℕ → ℕ → Entry → Bool
retimes seat i entry = begins seat i entry || ends i entry

-- a fail would change what a threshold counts: it is not unknown, and not down without a pass behind it
abbrev pub falls_at : Rule → ℕ → Bool
falls_at (Threshold fall rise start) memory = not (is_unknown_at (Threshold fall rise start) memory) && not (memory == fall)
falls_at Manual memory = false
falls_at (Depends mask) memory = false

-- the same of a slot, which may have no service
abbrev pub may_fall : Option (Rule × ℕ) → Bool
may_fall None = false
may_fall (Some state) = falls_at state.0 state.1

-- no entry from this place of the journal on begins the slot's time anew, or ends what is expected of it
abbrev pub is_unheard : ℕ → ℕ → ℕ → List Entry → Bool
is_unheard seat i from entries = not (list_any (retimes seat i) (drop from (past entries)))

-- a fail is to be made of a slot of which nothing was heard from this place of the journal on, all of which is kept: the server is not shut
-- down, and the fail would change what is counted
abbrev pub is_to_fail : Option ℕ → ℕ → ℕ → ℕ → List Entry → Bool
is_to_fail kept seat i from entries =
    nat_le (forgotten kept (length entries)) from && (is_unheard seat i from entries && (not (is_shut entries) && may_fall (probe_at entries i)))
