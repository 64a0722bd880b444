-- Where in a ring a place lies.
use Rattle.std.specs.Prelude.{ℕ, ◌/◌, ◌%◌, ◌^◌}

-- the slot of a place among so many, and the lap in which it has it, which goes round at 2^32
abbrev pub spot_of : ℕ → ℕ → ℕ × ℕ
spot_of count place = (place % count, place / count % 2 ^ 32)
