-- Which lap of a ring comes first, where their number goes round at 2^32.
use Rattle.std.specs.Prelude.{ℕ, ◌+◌, ◌-◌, ◌%◌, ◌^◌, ◌<◌}

-- how many laps the second is ahead of the first
abbrev pub ahead_of : ℕ → ℕ → ℕ
ahead_of lap other = (other + 2 ^ 32 - lap) % 2 ^ 32

-- the first lap comes before the second: that is ahead, by less than half a round
abbrev pub IsBefore : ℕ → ℕ → Type 0
IsBefore lap other = (0 < ahead_of lap other) × (ahead_of lap other < 2 ^ 31)
