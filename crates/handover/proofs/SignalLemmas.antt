-- Masks of signals, and the lines that they are read from.
use Rattle.std.proofs.Common.{ℕ, ◌≡◌, ◌≢◌, ◌↔◌, ◌==◌, nat_eq, not, IsTrue, bit_and, ◌<◌, List, [], ◌∷◌, ◌++◌, length, take, drop, true, false, find, Option, Some, None, Bor, refl, ap, sym, ◌∙◌, ◌+◌, arith}
use Rattle.std.proofs.lemmas.Bool.Decides.{Decides-eqb, nat_tests}
use Rattle.std.proofs.lemmas.List.{append_cancel_left}
use Rattle.std.proofs.lemmas.Slice.Eq.{strip_prefix_is}
use Rattle.std.proofs.lemmas.Str.{IsUtf8-from_ascii}
use Rattle.std.proofs.lemmas.Str.Ascii.{IsAscii-nil, IsAscii-cons}
use Rattle.std.specs.Char.{digit_value}
use Rattle.std.specs.Cmp.Lexicographic.{pointwise}
use Rattle.std.specs.List.{slice_split, starts_with}
use Rattle.std.specs.Option.{IfSome, IfNone, MatchOption}
use Rattle.std.specs.Str.{IsAscii, IsUtf8}
use Rattle.std.specs.Str.Parse.{AllDigits}
use Rattle.handover.specs.Signals.{IsAmong, IsMask, IsMaskIn, IsMaskLine}

digit_small : (c : ℕ) → digit_value c < 16 → c < 128
digit_small c is = grind (arith, nat_tests)

digits_ascii : (word : List ℕ) → AllDigits 16 word → IsAscii word
digits_ascii [] each = IsAscii-nil
digits_ascii (c ∷ word) each = IsAscii-cons c word (digit_small c each.0) (digits_ascii word each.1)

-- digits are text
pub digits_utf8 : (word : List ℕ) → AllDigits 16 word → IsUtf8 word
digits_utf8 word each = IsUtf8-from_ascii word (digits_ascii word each)

-- what is left of a line after its name
pub after_name : (name line : List ℕ) (r : Option (Bor (List ℕ))) (word : Bor (List ℕ))
    → MatchOption r (pointwise nat_eq (take (length name) line) name ≡ false)
    (λ x. (pointwise nat_eq (take (length name) line) name ≡ true) × (x.now ≡ drop (length name) line) × (length x.now + length name ≡ length line))
    → r ≡ Some word → line ≡ name ++ word.now
after_name name line r word cases is = rw is at (strip_prefix_is Decides-eqb line name r cases)

same_word : (name line word : List ℕ) → line ≡ name ++ word → (mask : ℕ) → (is : IsMaskLine name line mask) → is.word ≡ word
same_word name line word parts mask is = append_cancel_left name is.word word (sym is.parts ∙ parts)

-- what is left says the mask, if it says one
pub mask_by : (name line word : List ℕ) → line ≡ name ++ word → (r : Option ℕ)
    → IfSome r (λ mask. IsMask word mask) → IfSome r (λ mask. IsMaskLine name line mask)
mask_by name line word parts (Some mask) says = record { word = word; parts = parts; is = says }
mask_by name line word parts None says = says

pub no_mask_by : (name line word : List ℕ) → line ≡ name ++ word → (r : Option ℕ)
    → IfNone r ((mask : ℕ) → ¬ IsMask word mask) → IfNone r ((mask : ℕ) → ¬ IsMaskLine name line mask)
no_mask_by name line word parts (Some mask) says = says
no_mask_by name line word parts None says = λ mask is. says mask (rw (same_word name line word parts mask is) at is.is)

-- a text has no mask if its line has none
pub no_mask_in : (text name line : List ℕ) → Some line ≡ find (λ line. starts_with nat_eq line name) (slice_split (λ byte. byte == 10) text)
    → (r : Option ℕ) → IfNone r ((mask : ℕ) → ¬ IsMaskLine name line mask) → IfNone r ((mask : ℕ) → ¬ IsMaskIn text name mask)
no_mask_in text name line first (Some mask) says = says
no_mask_in text name line first None says = λ mask is.
    let same : is.line ≡ line = cc (first, is.first) in
    says mask (rw same at is.is)

-- a text has one mask of a name
pub one_mask : (text name : List ℕ) (a b : ℕ) → IsMaskIn text name a → IsMaskIn text name b → a ≡ b
one_mask text name a b first second =
    let same : second.line ≡ first.line = cc (first.first, second.first) in
    let line : IsMaskLine name first.line b = rw same at second.is in
    let word : line.word ≡ first.is.word = same_word name first.line first.is.word first.is.parts b line in
    let mask : IsMask first.is.word b = rw word at line.is in
    first.is.is.value_is ∙ sym mask.value_is

-- a line without the name has no mask
pub no_name : (name line : List ℕ) (r : Option (Bor (List ℕ)))
    → MatchOption r (pointwise nat_eq (take (length name) line) name ≡ false)
    (λ x. (pointwise nat_eq (take (length name) line) name ≡ true) × (x.now ≡ drop (length name) line) × (length x.now + length name ≡ length line))
    → r ≡ None → (mask : ℕ) → ¬ IsMaskLine name line mask
no_name name line r cases is = λ mask says.
    let none : (rest : List ℕ) → line ≢ name ++ rest = rw is at (strip_prefix_is Decides-eqb line name r cases) in
    none says.word says.parts

set : (mask : ℕ) → not (nat_eq mask 0) ≡ true → mask ≢ 0
set mask is = grind (arith, nat_tests)

is_set : (mask : ℕ) → mask ≢ 0 → not (nat_eq mask 0) ≡ true
is_set mask is = grind (arith, nat_tests)

-- whether a line has one of these signals, where it says a mask
pub among_by : (signals : ℕ) (text name : List ℕ) (mask : ℕ) → IsMaskIn text name mask
    → IsTrue (not (nat_eq (bit_and mask signals) 0)) ↔ IsAmong signals text name
among_by signals text name mask is = (
  (λ tested. record { mask = mask; is = is; common = set (bit_and mask signals) tested }),
  (λ among. is_set (bit_and mask signals) (λ zero. among.common (rw (one_mask text name among.mask mask among.is is) zero))),
)

-- and where it says none
pub among_none : (signals : ℕ) (text name : List ℕ) → ((mask : ℕ) → ¬ IsMaskIn text name mask)
    → IsTrue false ↔ IsAmong signals text name
among_none signals text name none = ((λ never. cc), λ among. absurd (none among.mask among.is))
