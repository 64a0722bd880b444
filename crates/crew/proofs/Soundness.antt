-- Sound lists of numbers: how they grow, and what is not among them.
use Rattle.std.proofs.Common.{ℕ, ◌≡◌, ◌≢◌, ◌<◌, ◌≤◌, ◌+◌, ◌⊎◌, inl, inr, List, [], ◌∷◌, ◌++◌, length, take, get_or, Some, ap, subst, sym, ◌∙◌, arith}
use Rattle.std.proofs.lemmas.List.{take_more, take-take, get_or-take, get_or_default, length-take}
use Rattle.std.proofs.lemmas.List.Elements.{All-push}
use Rattle.std.proofs.lemmas.List.Quantifiers.{all_pairs_push}
use Rattle.std.proofs.lemmas.Option.{get_or_from_slice_get, slice_get_within, slice_get-get_or}
use Rattle.std.specs.List.{slice_get, Contains}
use Rattle.crew.specs.Gather.{AreSound}

-- the front of a list with one element more
pub take_with : {X : Type 0} (xs : List X) (k : ℕ) (x : X) → slice_get xs k ≡ Some x → take (k + 1) xs ≡ take k xs ++ x ∷ []
take_with xs k x at =
    take_more xs k x (slice_get_within xs k x at) ∙ ap (λ y. take k xs ++ y ∷ []) (get_or_from_slice_get xs k x x at)

-- an element of a list stands in a longer front at the same place
at_front : {X : Type 0} (xs : List X) (k n : ℕ) (x : X) → slice_get xs k ≡ Some x → k < n → slice_get (take n xs) k ≡ Some x
at_front xs k n x at below =
    let within : k < length xs = slice_get_within xs k x at in
    slice_get-get_or (take n xs) k x (omega (arith, length-take n xs)) ∙ ap Some (get_or-take n xs k x below ∙ get_or_from_slice_get xs k x x at)

-- a number that is not there differs from each that is
differs : (numbers : List ℕ) (number k d : ℕ) → ¬ Contains numbers number → k < length numbers → get_or numbers k d ≢ number
differs numbers number k d none within same = none (k, within, get_or_default numbers k number d within ∙ same)

-- sound numbers with one more
pub sound_push : (expected : ℕ) (numbers : List ℕ) (number : ℕ) → AreSound expected numbers → number < expected → ¬ Contains numbers number
    → AreSound expected (numbers ++ number ∷ [])
sound_push expected numbers number sound below none = record {
  known = All-push (λ one. one < expected) numbers number sound.known below;
  single = all_pairs_push (λ one other. one ≢ other) numbers number sound.single (λ k d within. differs numbers number k d none within);
}

-- a sound front with one number more
pub sound_more : (expected : ℕ) (numbers : List ℕ) (k number : ℕ) → slice_get numbers k ≡ Some number → AreSound expected (take k numbers)
    → number < expected → ¬ Contains (take k numbers) number → AreSound expected (take (k + 1) numbers)
sound_more expected numbers k number at sound below none =
    subst (AreSound expected) (sym (take_with numbers k number at)) (sound_push expected (take k numbers) number sound below none)

-- in sound numbers no number stands before its place
not_before : (expected : ℕ) (numbers : List ℕ) (k number : ℕ) → AreSound expected numbers → slice_get numbers k ≡ Some number
    → ¬ Contains (take k numbers) number
not_before expected numbers k number sound at place =
    let within : k < length numbers = slice_get_within numbers k number at in
    let below : place.0 < k = omega (arith, place.1, length-take k numbers) in
    let there : get_or numbers place.0 number ≡ number = sym (get_or-take k numbers place.0 number below) ∙ place.2 in
    let here : get_or numbers k number ≡ number = get_or_from_slice_get numbers k number number at in
    sound.single place.0 k number below within (there ∙ sym here)

-- what is wrong with a number at a place: it is a stranger's, or stood before
abbrev pub IsWrong : ℕ → List ℕ → ℕ → ℕ → Type 0
IsWrong expected numbers place number = (expected ≤ number) ⊎ Contains (take place numbers) number

-- nothing is wrong with sound numbers
pub none_wrong : (expected : ℕ) (numbers : List ℕ) (place number : ℕ) → AreSound expected numbers → slice_get numbers place ≡ Some number
    → ¬ IsWrong expected numbers place number
none_wrong expected numbers place number sound at (inl stranger) =
    let within : place < length numbers = slice_get_within numbers place number at in
    let known : get_or numbers place number < expected = sound.known place number within in
    omega (arith, get_or_from_slice_get numbers place number number at)
none_wrong expected numbers place number sound at (inr double) = not_before expected numbers place number sound at double

-- nor with those of a sound front
pub none_wrong_before : (expected : ℕ) (numbers : List ℕ) (place later number : ℕ) → AreSound expected (take later numbers) → place < later
    → slice_get numbers place ≡ Some number → ¬ IsWrong expected numbers place number
none_wrong_before expected numbers place later number sound below at wrong =
    let P : List ℕ → Type 0 = λ front. (expected ≤ number) ⊎ Contains front number in
    none_wrong expected (take later numbers) place number sound (at_front numbers place later number at below)
    (subst P (sym (take-take place later numbers (omega arith))) wrong)
