-- Rings and their bells.
use Rattle.std.specs.Prelude.{ℕ, ◌+◌, ◌-◌, ◌^◌, Bool, true, false, min}

-- how many rings are counted after one more: each until the end, as far as there are numbers
abbrev pub rings_after : Bool → ℕ → ℕ
rings_after true rings = rings
rings_after false rings = min (rings + 1) (2 ^ 64 - 1)

-- what a bell has told: how many Looks, and whether an End
pub record Told : Type 0 where
  pub given : ℕ
  pub is_over : Bool
