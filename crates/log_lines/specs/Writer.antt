-- What a writer holds.
use Rattle.std.specs.Prelude.{ℕ, ◌≡◌, ◌+◌, ◌-◌, ◌^◌, List, Bool, drop, min, refl, ℤ}
use Rattle.std.specs.Coded.{Coded, code_by, coded×, coded_bool, coded_ℕ, coded_ℤ, coded_list}

-- the descriptor that is written to and whether its open file is shared, the bytes that wait, the oldest first, and how many lines were dropped that nobody was told of
pub record WriterState : Type 0 where
  pub descriptor : ℤ
  pub is_shared : Bool
  pub waiting : List ℕ
  pub dropped : ℕ

abbrev pub writer_code : Coded WriterState
writer_code =
    code_by ((ℤ × Bool) × (List ℕ × ℕ)) (coded× (coded× coded_ℤ coded_bool) (coded× (coded_list coded_ℕ) coded_ℕ))
    (λ writer. ((writer.descriptor, writer.is_shared), (writer.waiting, writer.dropped)))
    (λ p. record { descriptor = p.0.0; is_shared = p.0.1; waiting = p.1.0; dropped = p.1.1 }) (λ _. refl)

-- one more than a count, which ends at 2 ^ 64 - 1
abbrev pub one_more : ℕ → ℕ
one_more count = min (count + 1) (2 ^ 64 - 1)

-- what is left of a list, once some of its front is gone
abbrev pub IsRestOf : List ℕ → List ℕ → Type 0
IsRestOf old new = (count : ℕ) × (new ≡ drop count old)
