-- The place of a name that is looked for from the first on.
use Rattle.std.proofs.Common.{ℕ, ◌≡◌, ◌+◌, ◌<◌, ◌≤◌, ◌⊎◌, inl, inr, false, true, List, [], length, ap, ◌∙◌, arith, get_or}
use Rattle.std.specs.Prelude.{Some, None, slice_get}
use Rattle.std.specs.Str.{bytes_eq}
use Rattle.std.proofs.lemmas.Bool.{cases_lt}
use Rattle.std.proofs.lemmas.List.Sums.{position_or_len_is}
use Rattle.std.proofs.lemmas.Option.{slice_get_within, get_or_from_slice_get}
use Rattle.desk_core.specs.Catalogue.{slot_of}

-- the name stands at none of the slots below this one
abbrev pub IsBehind : List ℕ → List (List ℕ) → ℕ → Type 0
IsBehind name names slot = (k : ℕ) → k < slot → bytes_eq name (get_or names k []) ≡ false

-- nor does it at one slot more
pub one_further : (name : List ℕ) (names : List (List ℕ)) (slot : ℕ) (listed : List ℕ) → IsBehind name names slot
    → slice_get names slot ≡ Some listed → bytes_eq name listed ≡ false → IsBehind name names (slot + 1)
one_further name names slot listed behind is other k below = by_place (cases_lt k slot)
  where
    by_place : (k < slot) ⊎ (slot ≤ k) → bytes_eq name (get_or names k []) ≡ false
    by_place (inl before) = behind k before
    by_place (inr past) =
        let same : k ≡ slot = omega (arith, past, below) in
        ap (λ i. bytes_eq name (get_or names i [])) same ∙ (ap (bytes_eq name) (get_or_from_slice_get names slot listed [] is) ∙ other)

-- it is found
pub found : (name : List ℕ) (names : List (List ℕ)) (slot : ℕ) (listed : List ℕ) → IsBehind name names slot
    → slice_get names slot ≡ Some listed → bytes_eq name listed ≡ true → slot_of names name ≡ Some slot
found name names slot listed behind is same =
    let within : slot < length names = slice_get_within names slot listed is in
    let place = position_or_len_is (bytes_eq name) names slot [] (omega (arith, within)) behind
    (λ _. ap (bytes_eq name) (get_or_from_slice_get names slot listed [] is) ∙ same) in
    grind (arith, place, within)

-- it stands at none
pub not_found : (name : List ℕ) (names : List (List ℕ)) (slot : ℕ) → IsBehind name names slot → length names ≤ slot
    → slot_of names name ≡ None
not_found name names slot behind all =
    let place = position_or_len_is (bytes_eq name) names (length names) [] (omega arith) (λ k below. behind k (omega (arith, below, all)))
    (λ within. absurd (omega (arith, within))) in
    grind (arith, place)
