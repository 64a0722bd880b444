-- Lists whose elements are changed one after the other.
use Rattle.std.proofs.Common.{◌≡◌, ◌≢◌, ℕ, ◌+◌, ◌<◌, ◌≤◌, ◌==◌, Bool, true, false, List, length, get_or, set, refl, sym, ap, ◌∙◌, arith}
use Rattle.std.proofs.lemmas.Bool.{eqb-true, eqb-false}
use Rattle.std.proofs.lemmas.List.{get_or-set_same, get_or-set_other}

-- the next of a row is changed, and no other
pub next_set : {X : Type 0} (f : ℕ → X → X) (old now : List X) (n at : ℕ) (value : X) → n < length now → at ≡ n
    → ((i : ℕ) (other : X) → i < n → get_or now i other ≡ f i (get_or old i other))
    → ((i : ℕ) (other : X) → n ≤ i → get_or now i other ≡ get_or old i other)
    → ((other : X) → value ≡ f n (get_or now n other))
    → ((i : ℕ) (other : X) → i < n + 1 → get_or (set now at value) i other ≡ f i (get_or old i other))
    × ((i : ℕ) (other : X) → n + 1 ≤ i → get_or (set now at value) i other ≡ get_or old i other)
next_set {X} f old now n at value within same before behind is = (
  λ i other below. by_place i other (i == n) refl below,
  λ i other past. ap (λ k. get_or (set now k value) i other) same ∙ get_or-set_other now n i value other (λ one. omega (arith, one, past)) ∙ behind i other (omega (arith, past)),
)
  where
    by_place : (i : ℕ) (other : X) (b : Bool) → (i == n) ≡ b → i < n + 1 → get_or (set now at value) i other ≡ f i (get_or old i other)
    by_place i other true one below =
        let here : i ≡ n = eqb-true i n one in
        ap (λ k. get_or (set now k value) i other) same ∙ ap (λ k. get_or (set now n value) k other) here ∙ get_or-set_same now n value other within
        ∙ is other ∙ ap (f n) (behind n other (omega arith)) ∙ sym (ap (λ k. f k (get_or old k other)) here)
    by_place i other false two below =
        let apart : i ≢ n = eqb-false i n two in
        ap (λ k. get_or (set now k value) i other) same ∙ get_or-set_other now n i value other apart ∙ before i other (omega (arith, below, apart))

-- what stands at a place, by another name of the list and of the place
pub same_place : {A : Type 0} (xs ys : List A) (i j k : ℕ) (other : A) → xs ≡ ys → i ≡ j → j ≡ k → get_or xs i other ≡ get_or ys k other
same_place xs ys i j k other are is next = ap (λ zs. get_or zs i other) are ∙ ap (λ n. get_or ys n other) (is ∙ next)
