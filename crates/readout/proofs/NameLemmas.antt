-- Where the name of a word ends.
use Rattle.std.proofs.Common.{ℕ, ◌≡◌, ◌<◌, ◌≤◌, ◌+◌, List, [], ◌∷◌, ◌++◌, length, get_or, take, drop, Option, Some, None, Bor, MatchOption, option_map, refl, sym, ap, ◌∙◌, arith, lit<, suc}
use Rattle.std.specs.Str.Pattern.{RFindsChar}
use Rattle.std.proofs.lemmas.Bool.{ne_eqb}
use Rattle.std.proofs.lemmas.List.{take-append-drop}
use Rattle.std.proofs.lemmas.Str.Pattern.{NoCharPasses-char, drop_at_char}
use Rattle.readout.specs.Names.{name_from, name_of}

-- no byte of the list is `=`
abbrev pub HasNoSign : List ℕ → Type 0
HasNoSign word = (i : ℕ) → i < length word → get_or word i 0 ≡ 61 → ⊥

-- a word without the sign has no name
pub no_name : (word : List ℕ) → HasNoSign word → name_of word ≡ None
no_name [] none = refl
no_name (c ∷ word) none =
    let behind : name_of word ≡ None = no_name word (λ i below. none (suc i) (omega arith)) in
    rw (behind, ne_eqb c 61 (none 0 (omega arith))) refl

-- a word's name ends at its last sign
pub name_ends : (name status : List ℕ) → HasNoSign status → name_of (name ++ 61 ∷ status) ≡ Some name
name_ends [] status none = rw (no_name status none) refl
name_ends (c ∷ name) status none = ap (name_from c) (name_ends name status none)

-- takes the clause of `rsplit_once` at `=`
pub name_by_parts : (word : List ℕ) (r : Option (Bor (List ℕ) × Bor (List ℕ)))
    → MatchOption r (RFindsChar 61 word None) (λ x. (i : ℕ) × (j : ℕ) × RFindsChar 61 word (Some (i, j)) × (x.0.now ≡ take i word) × (x.1.now ≡ drop j word) × (i ≤ j) × (length x.0.now ≡ i) × (length x.1.now + j ≡ length word))
    → option_map (λ x. x.0.now) r ≡ name_of word
name_by_parts word None parts = sym (no_name word (λ i. NoCharPasses-char 61 word i parts (lit< tt)))
name_by_parts word (Some x) parts =
    let i = parts.0 in
    let j = parts.1 in
    let whole : word ≡ take i word ++ 61 ∷ drop j word = sym (take-append-drop i word) ∙ ap (λ rest. take i word ++ rest) (drop_at_char 61 word i j parts.2.1 (lit< tt)) in
    let ends = name_ends (take i word) (drop j word) (λ k. NoCharPasses-char 61 (drop j word) k parts.2.0 (lit< tt)) in
    ap Some parts.3 ∙ sym ends ∙ ap name_of (sym whole)
