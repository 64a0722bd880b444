-- A word of at most ten ASCII digits, and its number.
use Rattle.std.proofs.Common.{ℕ, ◌≡◌, ◌^◌, ◌<◌, ◌≤◌, ◌&&◌, Bool, true, false, List, [], ◌∷◌, length, Result, Ok, Err, refl, arith}
use Rattle.std.proofs.lemmas.Bool.Decides.{nat_tests}
use Rattle.std.proofs.lemmas.Str.Parse.{IsNumeralModel, numerals_by_value, tells_digits, parse_digits}
use Rattle.std.specs.Char.{is_ascii_digit, digit_value}
use Rattle.std.specs.List.{list_all}
use Rattle.std.specs.Result.{OkIff, result_ok}
use Rattle.std.specs.Str.Parse.{AllDigits, digits_value, ParsesUnsigned}
use Rattle.script.specs.Reading.{IsReading}
use Rattle.script.specs.Word.{IsNumber}

-- both of two tests
both : (a b : Bool) → (a && b) ≡ true → (a ≡ true) × (b ≡ true)
both true b passed = (refl, passed)
both false b passed = cc

-- an ASCII digit is below ten
digit_small : (c : ℕ) → is_ascii_digit c ≡ true → digit_value c < 10
digit_small c is = grind (arith, nat_tests)

-- ASCII digits are digits in base ten
all_digits : (digits : List ℕ) → list_all is_ascii_digit digits ≡ true → AllDigits 10 digits
all_digits [] each = tt
all_digits (c ∷ digits) each =
    let parts : (is_ascii_digit c ≡ true) × (list_all is_ascii_digit digits ≡ true) = both (is_ascii_digit c) (list_all is_ascii_digit digits) each in
    (digit_small c parts.0, all_digits digits parts.1)

own : IsNumeralModel (AllDigits 10) (digits_value 10)
own = numerals_by_value (AllDigits 10) tells_digits

-- digits are read as their number, where it fits
read : {E : Type 0} (word : List ℕ) (parsed : Result ℕ E) → list_all is_ascii_digit word ≡ true → length word ≤ 10
    → OkIff parsed ((0 < length word) × (digits_value 10 word < 2 ^ 32)) (digits_value 10 word) → IsReading IsNumber word (result_ok parsed)
read word (Ok value) digits most is =
    record {
      least = is.0.0;
      most = most;
      digits = digits;
      value_is = is.1;
      fits =
          (let below : digits_value 10 word < 2 ^ 32 = is.0.1 in let same : value ≡ digits_value 10 word = is.1 in omega arith);
    }
read word (Err error) digits most none = λ value is.
    none (is.least, (let fits : value < 2 ^ 32 = is.fits in let same : value ≡ digits_value 10 word = is.value_is in omega arith))

-- what `parse` gives for a word of digits
pub parsed : {E : Type 0} (word : List ℕ) (result : Result ℕ E) → list_all is_ascii_digit word ≡ true → length word ≤ 10 → ParsesUnsigned 32 10 word result
    → IsReading IsNumber word (result_ok result)
parsed word result digits most parses = read word result digits most (parse_digits own 32 word result parses (all_digits word digits))
