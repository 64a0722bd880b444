-- When a file that failed is opened anew.
use Rattle.std.specs.Prelude.{ℕ, ◌+◌, ◌<◌, Option, Some, None}

-- it was tried less than a second ago, in microseconds, or as much after this time, where clocks are read by several or were set back
abbrev pub IsRecent : Option ℕ → ℕ → Type 0
IsRecent None now = ⊥
IsRecent (Some last) now = (now < last + 1000000) × (last < now + 1000000)
