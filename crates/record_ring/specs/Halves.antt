-- How two numbers lie in a word.
use Rattle.std.specs.Prelude.{ℕ, ◌+◌, ◌*◌, ◌^◌}

-- a word whose upper 32 bits are one number, and whose lower 32 bits are another
abbrev pub joined : ℕ → ℕ → ℕ
joined upper lower = upper * 2 ^ 32 + lower
