-- When a target is looked at.
use Rattle.std.specs.Prelude.{ℕ}
use Rattle.observing.specs.declared.timetable.Timetable.{Timetable}

-- from which reading on the next look is due
abbrev pub next_of : Timetable → ℕ
next_of timetable = timetable.next

-- how many milliseconds are from one look to the next
abbrev pub period_of : Timetable → ℕ
period_of timetable = timetable.period
