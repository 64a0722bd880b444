-- Counts over lists of slots, told from what each key finds.
use Rattle.std.proofs.Common.{◌≡◌, ◌≢◌, ℕ, zero, suc, ◌+◌, Bool, false, List, [], ◌∷◌, get_or, Option, None, cond, count_by, refl, sym, ap, arith}
use Rattle.std.proofs.lemmas.List.Sums.{sum_by-cons}

module _ {X : Type 0} (p : Option X → Bool) (none : p None ≡ false) where
  -- 1 where the slot counts
  abbrev pub weight : Option X → ℕ
  weight slot = cond (p slot) 1 0

  -- lists that find the same at each key count the same
  pub same_count : (xs ys : List (Option X)) → ((key : ℕ) → get_or ys key None ≡ get_or xs key None) → count_by p ys ≡ count_by p xs
  same_count [] [] same = refl
  same_count [] (y ∷ ys) same =
      let here : y ≡ None = same 0 in
      let rest : count_by p ys ≡ 0 = same_count [] ys (λ key. same (suc key)) in
      let none_here : weight y ≡ 0 = rw (here, none) refl in
      omega (arith, sum_by-cons weight y ys, rest, none_here)
  same_count (x ∷ xs) [] same =
      let here : x ≡ None = sym (same 0) in
      let rest : 0 ≡ count_by p xs = same_count xs [] (λ key. same (suc key)) in
      let none_here : weight x ≡ 0 = rw (here, none) refl in
      omega (arith, sum_by-cons weight x xs, rest, none_here)
  same_count (x ∷ xs) (y ∷ ys) same =
      let here : weight y ≡ weight x = ap weight (same 0) in
      let rest : count_by p ys ≡ count_by p xs = same_count xs ys (λ key. same (suc key)) in
      omega (arith, sum_by-cons weight x xs, sum_by-cons weight y ys, rest, here)

  -- where one key changes, the count changes by what it found and what it finds
  pub count_changed : (xs ys : List (Option X)) (key : ℕ) → ((other : ℕ) → other ≢ key → get_or ys other None ≡ get_or xs other None)
      → count_by p ys + weight (get_or xs key None) ≡ count_by p xs + weight (get_or ys key None)
  count_changed [] [] key others = refl
  count_changed [] (y ∷ ys) zero others =
      let rest : count_by p ys ≡ 0 = same_count [] ys (λ key. others (suc key) (λ e. absurd (grind (arith, e)))) in
      let none_here : weight None ≡ 0 = rw none refl in
      omega (arith, sum_by-cons weight y ys, rest, none_here)
  count_changed [] (y ∷ ys) (suc key) others =
      let here : y ≡ None = others 0 (λ e. absurd (grind (arith, e))) in
      let none_here : weight y ≡ 0 = rw (here, none) refl in
      let rest = count_changed [] ys key (λ other differs. others (suc other) (λ e. differs (omega (arith, e)))) in
      omega (arith, sum_by-cons weight y ys, rest, none_here)
  count_changed (x ∷ xs) [] zero others =
      let rest : 0 ≡ count_by p xs = same_count xs [] (λ key. others (suc key) (λ e. absurd (grind (arith, e)))) in
      let none_here : weight None ≡ 0 = rw none refl in
      omega (arith, sum_by-cons weight x xs, rest, none_here)
  count_changed (x ∷ xs) [] (suc key) others =
      let here : x ≡ None = sym (others 0 (λ e. absurd (grind (arith, e)))) in
      let none_here : weight x ≡ 0 = rw (here, none) refl in
      let rest = count_changed xs [] key (λ other differs. others (suc other) (λ e. differs (omega (arith, e)))) in
      omega (arith, sum_by-cons weight x xs, rest, none_here)
  count_changed (x ∷ xs) (y ∷ ys) zero others =
      let rest : count_by p ys ≡ count_by p xs = same_count xs ys (λ key. others (suc key) (λ e. absurd (grind (arith, e)))) in
      omega (arith, sum_by-cons weight x xs, sum_by-cons weight y ys, rest)
  count_changed (x ∷ xs) (y ∷ ys) (suc key) others =
      let here : weight y ≡ weight x = ap weight (others 0 (λ e. absurd (grind (arith, e)))) in
      let rest = count_changed xs ys key (λ other differs. others (suc other) (λ e. differs (omega (arith, e)))) in
      omega (arith, sum_by-cons weight x xs, sum_by-cons weight y ys, rest, here)
