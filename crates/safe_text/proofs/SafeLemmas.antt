-- How a text is printed, character by character.
use Rattle.std.proofs.Common.{ℕ, ◌≡◌, List, ◌∷◌, ◌++◌, length, chars, sym, ap, ◌∙◌, append_assoc}
use Rattle.std.proofs.lemmas.List.{append-nil, nil_from_length}
use Rattle.std.proofs.lemmas.Str.{chars-nil}
use Rattle.safe_text.specs.Safe.{safe, safe_char}

-- one character more is written
pub next : (done all chars_left others : List ℕ) (c : ℕ) → chars_left ≡ c ∷ others → done ++ safe chars_left ≡ all → (done ++ safe_char c) ++ safe others ≡ all
next done all left others c is so_far =
    append_assoc done (safe_char c) (safe others) ∙ ap (λ (text : List ℕ). done ++ text) (sym (ap safe is)) ∙ so_far

-- nothing is left
pub all_written : (done all bytes_left : List ℕ) → length bytes_left ≡ 0 → done ++ safe (chars bytes_left) ≡ all → done ≡ all
all_written done all left none so_far =
    let empty = ap chars (nil_from_length left none) ∙ chars-nil in
    sym (append-nil done) ∙ ap (λ (text : List ℕ). done ++ text) (sym (ap safe empty)) ∙ so_far
