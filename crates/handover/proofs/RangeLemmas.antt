-- Numbers from one on.
use Rattle.std.proofs.Common.{ℕ, zero, suc, take, refl, ◌≤◌, ◌≡◌, ◌+◌, ◌-◌, ◌<◌, ◌∷◌, ap, arith}
use Rattle.std.specs.List.{range_with_len}

-- the first of some numbers, and the others
pub range_first : (next end : ℕ) → next < end → range_with_len next (end - next) ≡ next ∷ range_with_len (next + 1) (end - (next + 1))
range_first next end some = let more : end - next ≡ suc (end - (next + 1)) = omega arith in ap (range_with_len next) more

-- the first of some numbers, so many
pub range_front : (next len count : ℕ) → count ≤ len → take count (range_with_len next len) ≡ range_with_len next count
range_front next len zero within = refl
range_front next zero (suc count) within = absurd (omega arith)
range_front next (suc len) (suc count) within = ap (λ xs. next ∷ xs) (range_front (next + 1) len count (omega arith))
