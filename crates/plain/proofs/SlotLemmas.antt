-- Texts of names, one after another.
use Rattle.std.proofs.Common.{ℕ, suc, ◌≡◌, ◌+◌, ◌<◌, ◌≤◌, List, [], ◌∷◌, ◌++◌, length, drop, refl, sym, ap, ◌∙◌, arith}
use Rattle.std.specs.Prelude.{Option, Some, None, IsSome, option_copied, slice_get}
use Rattle.std.specs.Borrow.{Bor}
use Rattle.std.proofs.lemmas.List.{append-nil, append_assoc, drop_all}
use Rattle.std.proofs.lemmas.Option.{slice_get_within, slice_get-get_or, get_or_from_slice_get}
use Rattle.std.proofs.Math.Seq.{drop-cons}
use Rattle.plain.specs.Slots.{texts_from}

-- the names from a slot on begin with the one that stands there
pub name_first : (names : List (List ℕ)) (slot : ℕ) (name : List ℕ) → slice_get names slot ≡ Some name
    → drop slot names ≡ name ∷ drop (slot + 1) names
name_first names slot name is =
    let next : suc slot ≡ slot + 1 = omega arith in
    drop-cons names slot [] (slice_get_within names slot name is)
    ∙ (ap (λ one. one ∷ drop (suc slot) names) (get_or_from_slice_get names slot name [] is) ∙ ap (λ n. name ∷ drop n names) next)

-- a text more is written
pub pushed : (text : ℕ → List ℕ → List ℕ) (slot : ℕ) (names : List (List ℕ)) (whole items more : List ℕ) (name : List ℕ)
    → whole ≡ items ++ texts_from text slot (drop slot names) → slice_get names slot ≡ Some name → more ≡ items ++ text slot name
    → whole ≡ more ++ texts_from text (slot + 1) (drop (slot + 1) names)
pushed text slot names whole items more name so_far named written =
    so_far
    ∙ ap (λ rest. items ++ texts_from text slot rest) (name_first names slot name named)
    ∙ sym (append_assoc items (text slot name) (texts_from text (slot + 1) (drop (slot + 1) names)))
    ∙ ap (λ front. front ++ texts_from text (slot + 1) (drop (slot + 1) names)) (sym written)

-- all texts are written
pub all_pushed : (text : ℕ → List ℕ → List ℕ) (slot : ℕ) (names : List (List ℕ)) (whole items : List ℕ)
    → whole ≡ items ++ texts_from text slot (drop slot names) → length names ≤ slot → items ≡ whole
all_pushed text slot names whole items so_far all =
    sym (so_far ∙ ap (λ rest. items ++ texts_from text slot rest) (drop_all slot names all) ∙ append-nil items)

-- there is a name in each slot below their number
pub is_named : (names : List (List ℕ)) (count number slot : ℕ) (found : Option (Bor (List ℕ))) → option_copied found ≡ slice_get names slot
    → slot ≡ number → number < count → count ≡ length names → IsSome found
is_named names count number slot (Some name) is same below all = refl
is_named names count number slot None is same below all =
    let there : slice_get names slot ≡ Some _ = slice_get-get_or names slot [] (omega (arith, same, below, all)) in
    let none : None ≡ slice_get names slot = is in
    let never : None ≡ Some _ = none ∙ there in cc
