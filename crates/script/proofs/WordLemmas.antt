-- The words of a line, one by one.
use Rattle.std.proofs.Common.{ℕ, ◌≡◌, ◌<◌, ◌≤◌, ◌==◌, ◌||◌, List, [], ◌∷◌, length, get_or, take, drop, ◌-◌, Bool, true, false, refl, sym, ap, ◌∙◌, arith, Bor}
use Rattle.std.proofs.Math.Seq.{take-length}
use Rattle.std.specs.List.{list_any, slice_split}
use Rattle.script.specs.TextLines.{AreWords, texts}

-- a word alone
pub one_word : (words : List (Bor (List ℕ))) (default : Bor (List ℕ)) (first : List ℕ) → 1 ≤ length words → length words < 2 → (get_or words 0 default).now ≡ first → texts words ≡ first ∷ []
one_word [] default first least most is = absurd (omega arith)
one_word (word ∷ []) default first least most is = ap (λ (text : List ℕ). text ∷ []) is
one_word (word ∷ other ∷ words) default first least most is = absurd (omega arith)

-- a word and another
pub two_words : (words : List (Bor (List ℕ))) (default : Bor (List ℕ)) (first : List ℕ) → 2 ≤ length words → length words < 3 → (get_or words 0 default).now ≡ first
    → texts words ≡ first ∷ (get_or words 1 default).now ∷ []
two_words [] default first least most is = absurd (omega arith)
two_words (word ∷ []) default first least most is = absurd (omega arith)
two_words (word ∷ second ∷ []) default first least most is = ap (λ (text : List ℕ). text ∷ second.now ∷ []) is
two_words (word ∷ second ∷ third ∷ words) default first least most is = absurd (omega arith)

-- two words and one more
pub three_words : (words : List (Bor (List ℕ))) (default : Bor (List ℕ)) (last : List ℕ) → 3 ≤ length words → length words < 4 → (get_or words 2 default).now ≡ last
    → texts words ≡ (get_or words 0 default).now ∷ (get_or words 1 default).now ∷ last ∷ []
three_words [] default last least most is = absurd (omega arith)
three_words (word ∷ []) default last least most is = absurd (omega arith)
three_words (word ∷ second ∷ []) default last least most is = absurd (omega arith)
three_words (word ∷ second ∷ third ∷ []) default last least most is = ap (λ (text : List ℕ). word.now ∷ second.now ∷ text ∷ []) is
three_words (word ∷ second ∷ third ∷ fourth ∷ words) default last least most is = absurd (omega arith)

-- a word and two more
pub first_of_three : (words : List (Bor (List ℕ))) (default : Bor (List ℕ)) (first : List ℕ) → 3 ≤ length words → length words < 4 → (get_or words 0 default).now ≡ first
    → texts words ≡ first ∷ (get_or words 1 default).now ∷ (get_or words 2 default).now ∷ []
first_of_three [] default first least most is = absurd (omega arith)
first_of_three (word ∷ []) default first least most is = absurd (omega arith)
first_of_three (word ∷ second ∷ []) default first least most is = absurd (omega arith)
first_of_three (word ∷ second ∷ third ∷ []) default first least most is = ap (λ (text : List ℕ). text ∷ second.now ∷ third.now ∷ []) is
first_of_three (word ∷ second ∷ third ∷ fourth ∷ words) default first least most is = absurd (omega arith)

-- all of them
pub all_of : (words : List (Bor (List ℕ))) (n : ℕ) → n ≡ length words → texts words ≡ texts (take n words)
all_of words n is = rw (is, take-length words) refl

-- a word and any others
pub first_word : (words : List (Bor (List ℕ))) (default : Bor (List ℕ)) (first : List ℕ) → 1 ≤ length words → (get_or words 0 default).now ≡ first
    → texts words ≡ first ∷ texts (take (length words - 1) (drop 1 words))
first_word [] default first least is = absurd (omega arith)
first_word (word ∷ words) default first least is =
    rw (← all_of words (length (word ∷ words) - 1) (omega arith)) (ap (λ (text : List ℕ). text ∷ texts words) is)

-- a word, another, and any others
pub first_two : (words : List (Bor (List ℕ))) (default : Bor (List ℕ)) (first : List ℕ) → 2 ≤ length words → (get_or words 0 default).now ≡ first
    → texts words ≡ first ∷ (get_or words 1 default).now ∷ texts (take (length words - 2) (drop 2 words))
first_two [] default first least is = absurd (omega arith)
first_two (word ∷ []) default first least is = absurd (omega arith)
first_two (word ∷ second ∷ words) default first least is =
    rw (← all_of words (length (word ∷ second ∷ words) - 2) (omega arith)) (ap (λ (text : List ℕ). text ∷ second.now ∷ texts words) is)

-- a word is empty where its text is
pub empty_texts : (words : List (Bor (List ℕ))) → list_any (λ word. length word.now == 0) words ≡ list_any (λ word. length word == 0) (texts words)
empty_texts [] = refl
empty_texts (word ∷ words) = ap (λ (b : Bool). (length word.now == 0) || b) (empty_texts words)

-- the pieces of a line are its words, where none is empty
pub whole : (line : List ℕ) (words : List (Bor (List ℕ))) (empty : Bool) → texts words ≡ slice_split (λ c. c == 32) line → empty ≡ list_any (λ word. length word.now == 0) words → empty ≡ false
    → AreWords line (texts words)
whole line words empty cut tells none = record { parted = cut; whole = sym (tells ∙ empty_texts words) ∙ none }

-- and else it has none
pub torn : (line : List ℕ) (words : List (Bor (List ℕ))) (empty : Bool) → texts words ≡ slice_split (λ c. c == 32) line → empty ≡ list_any (λ word. length word.now == 0) words → empty ≡ true
    → (all : List (List ℕ)) → ¬ AreWords line all
torn line words empty cut tells some all are =
    let same : all ≡ texts words = are.parted ∙ sym cut in
    let none : list_any (λ word. length word == 0) all ≡ false = are.whole in
    let other : list_any (λ word. length word == 0) (texts words) ≡ false = rw same at none in
    let both : true ≡ false = sym some ∙ tells ∙ empty_texts words ∙ other in
    cc
