-- How a text is shown, character by character.
use Rattle.std.proofs.Common.{ℕ, ◌≡◌, ◌<◌, ◌-◌, suc, zero, List, [], ◌∷◌, ◌++◌, length, codes, chars, refl, sym, ap, ◌∙◌, arith, append_assoc}
use Rattle.std.proofs.lemmas.List.{append-nil, nil_from_length}
use Rattle.std.proofs.lemmas.Str.{chars-nil}
use Rattle.script.specs.Quoted.{shown, shown_char}

-- where there is room, a character is shown, and then the others
step : (room c : ℕ) (others : List ℕ) → 0 < room → shown room (c ∷ others) ≡ shown_char c ++ shown (room - 1) others
step zero c others some = absurd (omega arith)
step (suc room) c others some =
    let same : room ≡ suc room - 1 = omega arith in
    ap (λ (n : ℕ). shown_char c ++ shown n others) same

-- one character more is written
pub next : (done all chars_left others : List ℕ) (room c : ℕ) → 0 < room → chars_left ≡ c ∷ others → done ++ shown room chars_left ≡ all
    → (done ++ shown_char c) ++ shown (room - 1) others ≡ all
next done all left others room c some is so_far =
    append_assoc done (shown_char c) (shown (room - 1) others)
    ∙ ap (λ (text : List ℕ). done ++ text) (sym (ap (shown room) is ∙ step room c others some)) ∙ so_far

-- there is no more room
pub full : (done all chars_left others : List ℕ) (room c : ℕ) → room ≡ 0 → chars_left ≡ c ∷ others → done ++ shown room chars_left ≡ all
    → done ++ codes ".." ≡ all
full done all left others room c none is so_far =
    ap (λ (text : List ℕ). done ++ text) (sym (ap (shown room) is ∙ ap (λ (n : ℕ). shown n (c ∷ others)) none)) ∙ so_far

-- nothing is left
nothing : (room : ℕ) → shown room [] ≡ []
nothing zero = refl
nothing (suc room) = refl

pub all_shown : (done all bytes_left : List ℕ) (room : ℕ) → length bytes_left ≡ 0 → done ++ shown room (chars bytes_left) ≡ all → done ≡ all
all_shown done all left room none so_far =
    let empty = ap chars (nil_from_length left none) ∙ chars-nil in
    sym (append-nil done) ∙ ap (λ (text : List ℕ). done ++ text) (sym (ap (shown room) empty ∙ nothing room)) ∙ so_far
