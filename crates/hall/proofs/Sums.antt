-- Sums over a list of which one element changes.
use Rattle.std.proofs.Common.{◌≡◌, ℕ, zero, suc, ◌+◌, ◌≤◌, ◌≢◌, ◌⊎◌, List, [], ◌∷◌, ◌++◌, length, set, sym, refl, ap, subst, inl, inr, ⊎_elim, arith}
use Rattle.std.specs.List.{sum_by}
use Rattle.std.proofs.lemmas.List.Sums.{sum_by-cons}
use mathlib.Core.Option.{some, some-injective, some-ne-none}
use lib.ListN.{get_elem?}
use Rattle.atomic_table.proofs.Lists.{at_set}

module _ {A : Type 0} where
  -- the sum after one element was replaced
  pub sum-set : (f : A → ℕ) (xs : List A) (i : ℕ) (a b : A) → get_elem? xs i ≡ some a → sum_by f (set xs i b) + f a ≡ sum_by f xs + f b
  sum-set f [] i a b at = absurd (some-ne-none a (sym at))
  sum-set f (x ∷ xs) zero a b at = omega (arith, sum_by-cons f x xs, sum_by-cons f b xs, ap f (some-injective x a at))
  sum-set f (x ∷ xs) (suc i) a b at = omega (arith, sum_by-cons f x xs, sum_by-cons f x (set xs i b), sum-set f xs i a b at)

  -- an element has no more than the sum
  pub at_most_sum : (f : A → ℕ) (xs : List A) (i : ℕ) (a : A) → get_elem? xs i ≡ some a → f a ≤ sum_by f xs
  at_most_sum f [] i a at = absurd (some-ne-none a (sym at))
  at_most_sum f (x ∷ xs) zero a at = omega (arith, sum_by-cons f x xs, ap f (some-injective x a at))
  at_most_sum f (x ∷ xs) (suc i) a at = omega (arith, sum_by-cons f x xs, at_most_sum f xs i a at)

  -- what is less for each element is less in sum
  pub sum-mono : (f g : A → ℕ) (xs : List A) → ((i : ℕ) (a : A) → get_elem? xs i ≡ some a → f a ≤ g a) → sum_by f xs ≤ sum_by g xs
  sum-mono f g [] less = omega arith
  sum-mono f g (x ∷ xs) less =
      omega (arith, sum_by-cons f x xs, sum_by-cons g x xs, less 0 x refl, sum-mono f g xs (λ i a at. less (suc i) a at))

  sum-none : (f g : A → ℕ) (xs : List A) → sum_by f xs ≡ 0 → ((j : ℕ) (x : A) → get_elem? xs j ≡ some x → f x ≡ 0 → g x ≡ 0) → sum_by g xs ≡ 0
  sum-none f g [] whole none = refl
  sum-none f g (y ∷ ys) whole none =
      omega (arith, sum_by-cons g y ys, none 0 y refl (omega (arith, sum_by-cons f y ys)), sum-none f g ys (omega (arith, sum_by-cons f y ys)) (λ j z here. none (suc j) z here))

  -- where one element has the whole sum, the others have nothing, also of what is nothing where the first measure is
  pub sum-alone : (f g : A → ℕ) → (xs : List A) (i : ℕ) (a : A) → get_elem? xs i ≡ some a → sum_by f xs ≤ f a
      → ((j : ℕ) (x : A) → get_elem? xs j ≡ some x → f x ≡ 0 → g x ≡ 0) → sum_by g xs ≡ g a
  sum-alone f g [] i a at whole none = absurd (some-ne-none a (sym at))
  sum-alone f g (x ∷ xs) zero a at whole none =
      let same : x ≡ a = some-injective x a at in
      let rest : sum_by g xs ≡ 0 = sum-none f g xs (omega (arith, sum_by-cons f x xs, ap f same)) (λ j y here. none (suc j) y here) in
      omega (arith, sum_by-cons g x xs, ap g same, rest)
  sum-alone f g (x ∷ xs) (suc i) a at whole none =
      let least = at_most_sum f xs i a at in
      let first : g x ≡ 0 = none 0 x refl (omega (arith, sum_by-cons f x xs)) in
      omega (arith, sum_by-cons g x xs, first, sum-alone f g xs i a at (omega (arith, sum_by-cons f x xs)) (λ j y here. none (suc j) y here))

  -- what holds of the new element, and of each other at its place, holds of all
  pub each_set : (P : ℕ → A → Type 0) (xs : List A) (i : ℕ) (b : A) → P i b → ((j : ℕ) (a : A) → j ≢ i → get_elem? xs j ≡ some a → P j a)
      → (j : ℕ) (a : A) → get_elem? (set xs i b) j ≡ some a → P j a
  each_set P xs i b own others j a at =
      ⊎_elim (λ t. subst (λ k. P k a) (sym t.0) (subst (P i) t.1 own)) (λ t. others j a t.0 t.1) (at_set xs i j b a at)

  -- the elements of a list with one more at its end
  pub at_end : (xs : List A) (b a : A) (j : ℕ) → get_elem? (xs ++ b ∷ []) j ≡ some a → (get_elem? xs j ≡ some a) ⊎ ((j ≡ length xs) × (b ≡ a))
  at_end [] b a zero at = inr (refl, some-injective b a at)
  at_end [] b a (suc j) at = absurd (some-ne-none a (sym at))
  at_end (x ∷ xs) b a zero at = inl at
  at_end (x ∷ xs) b a (suc j) at = ⊎_elim inl (λ t. inr (ap suc t.0, t.1)) (at_end xs b a j at)
