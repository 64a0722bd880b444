-- Whose changes are whose.
use Rattle.std.specs.Prelude.{ℕ, ◌==◌, List, filter}
use Rattle.desk_core.specs.declared.entry.Entry.{Entry}

-- a seat's own entries, in their order
abbrev pub calls_by : List Entry → ℕ → List Entry
calls_by entries seat = filter (λ entry. entry.seat == seat) entries
