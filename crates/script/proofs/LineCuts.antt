-- Where a text's lines end, and what is read of a line.
use Rattle.std.proofs.Common.{ℕ, ◌≡◌, ◌<◌, ◌≤◌, ◌==◌, List, [], ◌∷◌, ◌++◌, length, get_or, Bool, true, false, refl, sym, ap, ◌∙◌, arith, suc, MatchOption, Option, Some, None, Bor, unwrap_or, nat_eq}
use Rattle.std.specs.Bool.{if◌then◌else◌, Decides}
use Rattle.std.specs.List.{onto_first, starts_with}
use Rattle.std.proofs.lemmas.Bool.{ne_eqb}
use Rattle.script.specs.TextLines.{lines, without_cr}

-- one byte more is at most one line more
few_after : (ends : Bool) (c n : ℕ) (others : List (List ℕ)) → length others ≤ n → length (if ends then [] ∷ others else onto_first c others) ≤ suc n
few_after true c n others few = omega arith
few_after false c n [] few = omega arith
few_after false c n (line ∷ others) few = omega arith

-- a text has no more lines than bytes
pub few_lines : (text : List ℕ) → length (lines text) ≤ length text
few_lines [] = omega arith
few_lines (c ∷ rest) = few_after (c == 10) c (length rest) (lines rest) (few_lines rest)

-- no byte of the list is LF
abbrev pub HasNoEnd : List ℕ → Type 0
HasNoEnd text = (i : ℕ) → i < length text → get_or text i 0 ≡ 10 → ⊥

-- a line that ends at LF
pub line_ends : (line rest : List ℕ) → HasNoEnd line → lines (line ++ 10 ∷ rest) ≡ line ∷ lines rest
line_ends [] rest none = refl
line_ends (c ∷ line) rest none =
    let behind : lines (line ++ 10 ∷ rest) ≡ line ∷ lines rest = line_ends line rest (λ i below. none (suc i) (omega arith)) in
    rw (ne_eqb c 10 (none 0 (omega arith)), behind) refl

-- the last line
pub line_whole : (line : List ℕ) → 0 < length line → HasNoEnd line → lines line ≡ line ∷ []
line_whole [] some none = absurd (omega arith)
line_whole (c ∷ []) some none = rw (ne_eqb c 10 (none 0 (omega arith))) refl
line_whole (c ∷ d ∷ rest) some none =
    let behind : lines (d ∷ rest) ≡ (d ∷ rest) ∷ [] = line_whole (d ∷ rest) (omega arith) (λ i below. none (suc i) (omega arith)) in
    rw (ne_eqb c 10 (none 0 (omega arith)), behind) refl

-- what stands before and behind the first LF, or all and nothing
pub first_line : (text : List ℕ) (found : Option (Bor (List ℕ) × Bor (List ℕ))) (all nothing : Bor (List ℕ)) → 0 < length text → all.now ≡ text → nothing.now ≡ []
    → MatchOption found (HasNoEnd text) (λ x. (text ≡ x.0.now ++ (10 ∷ x.1.now)) × HasNoEnd x.0.now)
    → lines text ≡ (unwrap_or found (all, nothing)).0.now ∷ lines (unwrap_or found (all, nothing)).1.now
first_line text None all nothing some same none ends = rw (same, none) (line_whole text some ends)
first_line text (Some x) all nothing some same none ends = ap lines ends.0 ∙ line_ends x.0.now x.1.now ends.1

-- a line that ends in CR
ends_cr : (front : List ℕ) → without_cr (front ++ 13 ∷ []) ≡ front
ends_cr [] = refl
ends_cr (c ∷ []) = refl
ends_cr (c ∷ d ∷ rest) = ap (λ (line : List ℕ). c ∷ line) (ends_cr (d ∷ rest))

-- a line that does not
ends_other : (line : List ℕ) → ((front : List ℕ) → line ≡ front ++ 13 ∷ [] → ⊥) → without_cr line ≡ line
ends_other [] none = refl
ends_other (c ∷ []) none = rw (ne_eqb c 13 (λ same. none [] (ap (λ (byte : ℕ). byte ∷ []) same))) refl
ends_other (c ∷ d ∷ rest) none = ap (λ (line : List ℕ). c ∷ line) (ends_other (d ∷ rest) (λ front same. none (c ∷ front) (ap (λ (line : List ℕ). c ∷ line) same)))

-- what is left of a line where a CR at its end is taken off
pub strip_cr : (line : List ℕ) (found : Option (Bor (List ℕ))) (whole : Bor (List ℕ)) → whole.now ≡ line
    → MatchOption found ((front : List ℕ) → line ≡ front ++ 13 ∷ [] → ⊥) (λ x. line ≡ x.now ++ 13 ∷ [])
    → (unwrap_or found whole).now ≡ without_cr line
strip_cr line None whole same none = same ∙ sym (ends_other line none)
strip_cr line (Some x) whole same ends = sym (ap without_cr ends ∙ ends_cr x.now)

-- a line that does not begin with `#`
pub no_hash : (line : List ℕ) (begins : Bool) → Decides begins (get_or line 0 0 ≡ 35) → begins ≡ false → starts_with nat_eq line (35 ∷ []) ≡ false
no_hash [] begins tells not = refl
no_hash (c ∷ rest) begins tells not =
    let other : 35 ≡ c → ⊥ = λ same. (let yes : begins ≡ true = tells.1 (sym same) in cc) in
    rw (ne_eqb 35 c other) refl
