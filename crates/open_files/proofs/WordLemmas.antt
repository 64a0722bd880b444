-- The first word of a text, whose words are parted by spaces.
use Rattle.std.proofs.Common.{ℕ, zero, suc, one-add, add-zero, length-append, ◌≡◌, ◌≢◌, ◌+◌, ◌<◌, ◌≤◌, ◌==◌, Bool, true, false, not, List, [], ◌∷◌, ◌++◌, length, take, drop, replicate, All, Some, None, position, refl, ap, sym, ◌∙◌, arith, get_or}
use Rattle.std.proofs.lemmas.Bool.Decides.{nat_tests}
use Rattle.std.proofs.lemmas.Grind.{common_steps}
use Rattle.std.proofs.lemmas.List.{length-take-le, get_or-take, get_or-drop}
use Rattle.std.proofs.lemmas.List.Elements.{All-head, All-tail}
use Rattle.std.proofs.Math.Seq.{take-append_seam}
use Rattle.std.proofs.lemmas.List.Sums.{split_at_first, passes_at_first, fails_before_first}
use Rattle.std.specs.List.{position_or_len}
use Rattle.open_files.specs.Limits.{IsFirstWord}

abbrev pub is_space : ℕ → Bool
is_space byte = byte == 32

abbrev pub is_other : ℕ → Bool
is_other byte = not (byte == 32)

-- behind spaces stands the first other byte
skips : (spaces byte : ℕ) (rest : List ℕ) → byte ≢ 32 → position_or_len is_other (replicate spaces 32 ++ byte ∷ rest) ≡ spaces
skips zero byte rest other = grind (arith, nat_tests)
skips (suc spaces) byte rest other = let ih = skips spaces byte rest other in grind (arith, ih)

-- behind a word without a space stands the first space
stops : (word others : List ℕ) → All (λ byte. byte ≢ 32) word → position_or_len is_space (word ++ 32 ∷ others) ≡ length word
stops [] others plain = refl
stops (byte ∷ word) others plain =
    let other : byte ≢ 32 = All-head (λ byte. byte ≢ 32) byte word plain in
    let ih = stops word others (All-tail (λ byte. byte ≢ 32) byte word plain) in
    grind (arith, nat_tests, ih)

more_front : (spaces : ℕ) (rest : List ℕ) → rest ≡ replicate spaces 32 ++ drop spaces rest
    → 32 ∷ rest ≡ replicate (1 + spaces) 32 ++ drop (1 + spaces) (32 ∷ rest)
more_front spaces rest ih = rw (one-add spaces) (ap (λ xs. 32 ∷ xs) ih)

-- before the first other byte stand spaces
front_step : (byte : ℕ) (rest : List ℕ) (test : Bool) → (byte == 32) ≡ test
    → rest ≡ replicate (position_or_len is_other rest) 32 ++ drop (position_or_len is_other rest) rest
    → byte ∷ rest ≡ replicate (position_or_len is_other (byte ∷ rest)) 32 ++ drop (position_or_len is_other (byte ∷ rest)) (byte ∷ rest)
front_step byte rest true is ih = grind (arith, nat_tests, common_steps, more_front)
front_step byte rest false is ih = grind (arith, nat_tests, common_steps)

front : (text : List ℕ) → text ≡ replicate (position_or_len is_other text) 32 ++ drop (position_or_len is_other text) text
front [] = refl
front (byte ∷ rest) = front_step byte rest (byte == 32) refl (front rest)

-- a place that is found is the first one, and in the text
found : (p : ℕ → Bool) (text : List ℕ) (place : ℕ) → position p text ≡ Some place → (position_or_len p text ≡ place) × (place < length text)
found p text place is = grind (arith, nat_tests)

-- where none is found
missing : (p : ℕ → Bool) (text : List ℕ) → position p text ≡ None → length text ≤ position_or_len p text
missing p text is = grind (arith, nat_tests)

-- where a first word begins
starts_at : (spaces : ℕ) (word others : List ℕ) → All (λ byte. byte ≢ 32) word → 0 < length word
    → position_or_len is_other (replicate spaces 32 ++ (word ++ 32 ∷ others)) ≡ spaces
starts_at spaces [] others plain some = absurd (omega arith)
starts_at spaces (byte ∷ word) others plain some = skips spaces byte (word ++ 32 ∷ others) (All-head (λ byte. byte ≢ 32) byte word plain)

drop_front : (spaces : ℕ) (rest : List ℕ) → drop spaces (replicate spaces 32 ++ rest) ≡ rest
drop_front zero rest = refl
drop_front (suc spaces) rest = drop_front spaces rest

start_of : (text word : List ℕ) (is : IsFirstWord text word) → position_or_len is_other text ≡ is.spaces
start_of text word is = ap (position_or_len is_other) is.parts ∙ starts_at is.spaces word is.others is.plain is.some

rest_of : (text word : List ℕ) (is : IsFirstWord text word) → drop is.spaces text ≡ word ++ 32 ∷ is.others
rest_of text word is = ap (drop is.spaces) is.parts ∙ drop_front is.spaces (word ++ 32 ∷ is.others)

length_of : (text word : List ℕ) (is : IsFirstWord text word) → length text ≡ is.spaces + (length word + (1 + length is.others))
length_of text word is = ap length is.parts ∙ grind (arith, common_steps)

-- a text without another byte has no word
pub no_start : (text : List ℕ) → position is_other text ≡ None → (word : List ℕ) → ¬ IsFirstWord text word
no_start text none word is = absurd (omega (arith, missing is_other text none, start_of text word is, length_of text word is))

-- and none has a text that ends in it
pub no_end : (text : List ℕ) (start : ℕ) → position is_other text ≡ Some start → position is_space (drop start text) ≡ None
    → (word : List ℕ) → ¬ IsFirstWord text word
no_end text start at none word is =
    let same : is.spaces ≡ start = sym (start_of text word is) ∙ (found is_other text start at).0 in
    let rest : drop start text ≡ word ++ 32 ∷ is.others = rw same at (rest_of text word is) in
    let past = rw rest at (missing is_space (drop start text) none) in
    let stop = stops word is.others is.plain in
    absurd (omega (arith, past, stop, length-append word (32 ∷ is.others)))

-- a space is a space, and another byte is none
space_is : (byte : ℕ) → is_space byte ≡ true → byte ≡ 32
space_is byte is = grind (arith, nat_tests)

other_is : (byte : ℕ) → is_other byte ≡ true → byte ≢ 32
other_is byte is = grind (arith, nat_tests)

no_space : (byte : ℕ) → is_space byte ≡ false → byte ≢ 32
no_space byte is = grind (arith, nat_tests)

-- what stands before the first space of a text that begins with another byte is a word, and a space stands behind it
word_before : (text : List ℕ) (end : ℕ) → position is_space text ≡ Some end → get_or text 0 32 ≢ 32
    → (text ≡ take end text ++ 32 ∷ drop (end + 1) text) × All (λ byte. byte ≢ 32) (take end text) × (0 < length (take end text))
word_before text end at begins =
    let is = found is_space text end at in
    let within : position_or_len is_space text < length text = omega arith in
    let cut = rw is.0 at (split_at_first is_space text 0 within) in
    let space : get_or text end 0 ≡ 32 = space_is (get_or text end 0) (rw is.0 at (passes_at_first is_space text 0 within)) in
    let same : get_or text end 32 ≡ 32 = space_is (get_or text end 32) (rw is.0 at (passes_at_first is_space text 32 within)) in
    let some : end ≢ 0 = λ none. begins (rw none at same) in
    let len : length (take end text) ≡ end = length-take-le end text (omega arith) in (
      rw space at cut,
      (λ k d small.
          let before : k < end = omega arith in
          rw (get_or-take end text k d before) (no_space (get_or text k d) (fails_before_first is_space text k d (omega arith)))),
      omega arith,
    )

-- the word that both places tell
pub word_is : (text : List ℕ) (start end : ℕ) → position is_other text ≡ Some start → position is_space (drop start text) ≡ Some end
    → IsFirstWord text (take end (drop start text))
word_is text start end other space =
    let is = found is_other text start other in
    let within : position_or_len is_other text < length text = omega arith in
    let begins : get_or text start 32 ≢ 32 = other_is (get_or text start 32) (rw is.0 at (passes_at_first is_other text 32 within)) in
    let word = word_before (drop start text) end space (rw (get_or-drop, add-zero) begins) in
    record {
      spaces = start;
      others = drop (end + 1) (drop start text);
      parts = rw is.0 at (front text) ∙ ap (λ rest. replicate start 32 ++ rest) word.0;
      plain = word.1;
      some = word.2;
    }

-- a text has one first word
pub same_word : (text a b : List ℕ) → IsFirstWord text a → IsFirstWord text b → a ≡ b
same_word text a b first second =
    let spaces : second.spaces ≡ first.spaces = sym (start_of text b second) ∙ start_of text a first in
    let rest : a ++ 32 ∷ first.others ≡ b ++ 32 ∷ second.others = sym (rest_of text a first) ∙ rw spaces at (rest_of text b second) in
    let len : length a ≡ length b = sym (stops a first.others first.plain) ∙ (ap (position_or_len is_space) rest ∙ stops b second.others second.plain) in
    sym (take-append_seam a (32 ∷ first.others)) ∙ (ap (take (length a)) rest ∙ rw len (take-append_seam b (32 ∷ second.others)))
