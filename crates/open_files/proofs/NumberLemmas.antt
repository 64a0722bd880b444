-- A word of ASCII digits.
use Rattle.std.proofs.Common.{ℕ, ◌≡◌, ◌<◌, ◌&&◌, Bool, true, false, List, [], ◌∷◌, refl, arith, rules}
use Rattle.std.proofs.lemmas.Bool.Decides.{nat_tests}
use Rattle.std.proofs.lemmas.Str.{IsUtf8-from_ascii}
use Rattle.std.proofs.lemmas.Str.Ascii.{IsAscii-nil, IsAscii-cons}
use Rattle.std.proofs.lemmas.Str.Parse.{IsNumeralModel, IsDigitsTest, numerals_by_value}
use Rattle.std.specs.Char.{is_ascii_digit}
use Rattle.std.specs.List.{list_all}
use Rattle.std.specs.Str.{IsAscii, IsUtf8}
use Rattle.std.specs.Str.Parse.{digits_value}
use Rattle.open_files.specs.Limits.{IsNumber}

test : IsDigitsTest (λ ds. list_all is_ascii_digit ds ≡ true)
test = search rules

pub own : IsNumeralModel (λ ds. list_all is_ascii_digit ds ≡ true) (digits_value 10)
own = numerals_by_value (λ ds. list_all is_ascii_digit ds ≡ true) test

-- a word with another byte is no number
pub other_is_no_number : (word : List ℕ) → list_all is_ascii_digit word ≡ false → (value : ℕ) → ¬ IsNumber word value
other_is_no_number word other value is = let digits : list_all is_ascii_digit word ≡ true = own.from word is.digits.1 in cc

both : (a b : Bool) → (a && b) ≡ true → (a ≡ true) × (b ≡ true)
both true b passed = (refl, passed)
both false b passed = cc

digit_small : (c : ℕ) → is_ascii_digit c ≡ true → c < 128
digit_small c is = grind (arith, nat_tests)

digits_ascii : (word : List ℕ) → list_all is_ascii_digit word ≡ true → IsAscii word
digits_ascii [] each = IsAscii-nil
digits_ascii (c ∷ word) each =
    let parts : (is_ascii_digit c ≡ true) × (list_all is_ascii_digit word ≡ true) = both (is_ascii_digit c) (list_all is_ascii_digit word) each in
    IsAscii-cons c word (digit_small c parts.0) (digits_ascii word parts.1)

-- digits are text
pub digits_utf8 : (word : List ℕ) → list_all is_ascii_digit word ≡ true → IsUtf8 word
digits_utf8 word each = IsUtf8-from_ascii word (digits_ascii word each)
