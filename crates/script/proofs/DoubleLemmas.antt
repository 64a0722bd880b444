-- The first word that stands again behind its place, word by word.
use Rattle.std.proofs.Common.{ℕ, ◌≡◌, ◌≤◌, ◌-◌, ◌||◌, Bool, true, false, List, [], ◌∷◌, length, get_or, take, drop, Some, refl, sym, ap, ◌∙◌, Bor}
use Rattle.std.specs.List.{list_any}
use Rattle.std.specs.Str.{bytes_eq}
use Rattle.script.specs.CatalogueComplaint.{first_double}
use Rattle.script.specs.TextLines.{texts}
use Rattle.script.proofs.WordLemmas.{first_word}

-- a text is one of the words where it is one of their texts
any_text : (words : List (Bor (List ℕ))) (text : List ℕ) → list_any (λ other. bytes_eq other.now text) words ≡ list_any (λ other. bytes_eq other text) (texts words)
any_text [] text = refl
any_text (word ∷ words) text = ap (λ (b : Bool). bytes_eq word.now text || b) (any_text words text)

-- the first word stands again
pub again : (words : List (Bor (List ℕ))) (default : Bor (List ℕ)) (found : Bool) → 1 ≤ length words
    → found ≡ list_any (λ other. bytes_eq other.now (get_or words 0 default).now) (take (length words - 1) (drop 1 words)) → found ≡ true
    → Some (get_or words 0 default).now ≡ first_double (texts words)
again words default found least tells some =
    let behind = take (length words - 1) (drop 1 words) in
    let first = (get_or words 0 default).now in
    let is : list_any (λ other. bytes_eq other first) (texts behind) ≡ true = sym (any_text behind first) ∙ sym tells ∙ some in
    rw (first_word words default first least refl, is) refl

-- it does not
pub not_again : (words : List (Bor (List ℕ))) (default : Bor (List ℕ)) (found : Bool) → 1 ≤ length words
    → found ≡ list_any (λ other. bytes_eq other.now (get_or words 0 default).now) (take (length words - 1) (drop 1 words)) → found ≡ false
    → first_double (texts (take (length words - 1) (drop 1 words))) ≡ first_double (texts words)
not_again words default found least tells none =
    let behind = take (length words - 1) (drop 1 words) in
    let first = (get_or words 0 default).now in
    let is : list_any (λ other. bytes_eq other first) (texts behind) ≡ false = sym (any_text behind first) ∙ sym tells ∙ none in
    rw (first_word words default first least refl, is) refl
