use Rattle.std.proofs.Common.{◌≡◌, ℕ, ◌<◌, ◌≤◌, List, ◌++◌, length, get_or, take, drop, sym, ap, ◌∙◌, arith, length-append, append_assoc}
use Rattle.std.proofs.lemmas.List.{get_or_append_left, take_at, drop_at}

-- a byte of the front is that byte of the whole
pub byte_of_front : (bytes front rest : List ℕ) (k : ℕ) → bytes ≡ front ++ rest → k < length front → get_or bytes k 0 ≡ get_or front k 0
byte_of_front bytes front rest k parts below = ap (λ xs. get_or xs k 0) parts ∙ get_or_append_left front rest 0 k below

pub front_within : (bytes front rest : List ℕ) → bytes ≡ front ++ rest → length front ≤ length bytes
front_within bytes front rest parts = omega (arith, ap length parts, length-append front rest)

-- two fronts of one length are one
pub one_split : (a b x y : List ℕ) → length a ≡ length b → a ++ x ≡ b ++ y → (a ≡ b) × (x ≡ y)
one_split a b x y len same = (
  sym (take_at a x (length b) len) ∙ ap (take (length b)) same ∙ take_at b y (length b) (λ _. length b),
  sym (drop_at a x (length b) len) ∙ ap (drop (length b)) same ∙ drop_at b y (length b) (λ _. length b),
)

-- a front, and then a front of the rest
pub then_front : (bytes front rest next after : List ℕ) → bytes ≡ front ++ rest → rest ≡ next ++ after → bytes ≡ (front ++ next) ++ after
then_front bytes front rest next after parts more = parts ∙ ap (λ xs. front ++ xs) more ∙ sym (append_assoc front next after)
