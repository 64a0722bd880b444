-- What an operator is told of a service at once: why it has its status, since when, and when it was last reported.
use Rattle.std.specs.Prelude.{ℕ, ◌==◌, ◌&&◌, not, Bool, false, Option, List, ◌∷◌}
use Rattle.desk_core.specs.declared.call.Call.{Call}
use Rattle.desk_core.specs.declared.call.Call.TheVariants.{Register, Retire, Observe, Set, Shutdown, Resume}
use Rattle.desk_core.specs.declared.entry.Entry.{Entry}
use Rattle.desk_core.specs.declared.standing.Standing.{Standing}
use Rattle.desk_core.specs.Changes.{is_same, shown_at}
use Rattle.desk_core.specs.Reason.{newest, reason_at}
use Rattle.desk_core.specs.Silence.{is_done}

-- the entry changed what is shown of a slot
abbrev pub flips : ℕ → Entry → List Entry → Bool
flips i entry older = not (is_same (shown_at older i) (shown_at (entry ∷ older) i))

-- a call reports what was found of a slot
abbrev pub asks_heard : ℕ → Call → Bool
asks_heard i (Register slot rule) = false
asks_heard i (Retire slot) = false
asks_heard i (Observe slot finding) = slot == i
asks_heard i (Set slot setting) = false
asks_heard i Shutdown = false
asks_heard i Resume = false

-- the entry is a report of a slot that was taken; what the first seat makes is none, since that seat is the server's own
abbrev pub reports : ℕ → Entry → List Entry → Bool
reports i entry older = not (entry.seat == 0) && (asks_heard i entry.call && is_done entry.reply)

-- what is told of a slot
abbrev pub standing_at : Option ℕ → List Entry → ℕ → Standing
standing_at kept entries i = record { reason = reason_at kept entries i; since = newest (flips i) entries; reported = newest (reports i) entries }
