-- How important a line is.
use Rattle.log.specs.declared.level.Level.{Level}
use Rattle.log.specs.declared.level.Level.TheVariants.{Error, Warn, Info, Debug, Trace}
use Rattle.std.specs.Prelude.{ℕ}
use Rattle.log_lines.specs.declared.event.Event.{Event}
use Rattle.log_lines.specs.declared.event.Event.TheVariants as events
use Rattle.log_lines.specs.declared.status.Status.{Status}
use Rattle.log_lines.specs.declared.status.Status.TheVariants as statuses

-- a change to this status
abbrev pub level_at : Status → Level
level_at statuses.Serving = Info
level_at statuses.NotServing = Warn
level_at statuses.Unknown = Info
level_at statuses.Absent = Warn

-- a beginning, an end and a change for the better are no warning, and all else is one
abbrev pub level_of : Event → Level
level_of (events.Serving address services entries) = Info
level_of (events.Ended why) = Info
level_of (events.Changed name old new place who call) = level_at new
level_of (events.Expired name seconds fails place) = Warn
level_of (events.Refused who reason) = Warn
level_of (events.Limited limit) = Warn
level_of (events.NotWritten why) = Warn
level_of events.WrittenAgain = Info
level_of (events.LeftOut count) = Warn
level_of (events.Dropped count) = Warn
level_of (events.Lost count) = Warn
level_of (events.Forgotten count) = Warn

-- its priority, as syslog(3) numbers them
abbrev pub priority_of : Level → ℕ
priority_of Error = 3
priority_of Warn = 4
priority_of Info = 6
priority_of Debug = 7
priority_of Trace = 7
