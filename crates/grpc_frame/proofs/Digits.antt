-- The number that a status's digits write, one digit after another.
use Rattle.std.proofs.Common.{ℕ, ◌≡◌, ◌+◌, ◌-◌, ◌*◌, ◌^◌, ◌<◌, ◌≤◌, ◌&&◌, Bool, true, false, List, [], ◌∷◌, length, take, get_or, refl, sym, ◌∙◌, arith}
use Rattle.std.proofs.Math.Nat.{pow-le-pow_right}
use Rattle.std.proofs.lemmas.Bool.Decides.{nat_tests}
use Rattle.std.proofs.lemmas.Int.Digits.{digits_value-lt, digits_value_more}
use Rattle.std.proofs.lemmas.List.Sums.{AllPass-from_list_all}
use Rattle.std.proofs.lemmas.Str.Parse.{digits_value-take-le}
use Rattle.std.specs.Char.{is_ascii_digit, digit_value}
use Rattle.std.specs.List.{list_all}
use Rattle.std.specs.Str.Parse.{AllDigits, digits_value}

-- both of two tests
pub both : (a b : Bool) → (a && b) ≡ true → (a ≡ true) × (b ≡ true)
both true b passed = (refl, passed)
both false b passed = cc

-- a digit's value
pub digit_is : (c : ℕ) → is_ascii_digit c ≡ true → digit_value c ≡ c - 48
digit_is c is = grind (arith, nat_tests)

pub digit_small : (c : ℕ) → is_ascii_digit c ≡ true → digit_value c < 10
digit_small c is = grind (arith, nat_tests)

-- ASCII digits are digits in base ten
pub all_digits : (digits : List ℕ) → list_all is_ascii_digit digits ≡ true → AllDigits 10 digits
all_digits [] each = tt
all_digits (c ∷ digits) each =
    let parts : (is_ascii_digit c ≡ true) × (list_all is_ascii_digit digits ≡ true) = both (is_ascii_digit c) (list_all is_ascii_digit digits) each in
    (digit_small c parts.0, all_digits digits parts.1)

-- the number with one digit more
pub one_more : (digits : List ℕ) (i number digit : ℕ) → list_all is_ascii_digit digits ≡ true → i < length digits → number ≡ digits_value 10 (take i digits) → digit ≡ get_or digits i 0 - 48
    → number * 10 + digit ≡ digits_value 10 (take (i + 1) digits)
one_more digits i number digit each within so_far is =
    let passes : is_ascii_digit (get_or digits i 0) ≡ true = AllPass-from_list_all is_ascii_digit digits each i 0 within in
    let value : digit_value (get_or digits i 0) ≡ digit = digit_is (get_or digits i 0) passes ∙ sym is in
    rw (digits_value_more 10 digits i within, value, so_far) refl

-- at most nine digits write a number that fits
pub stays_small : (digits : List ℕ) (i number digit : ℕ) → list_all is_ascii_digit digits ≡ true → length digits ≤ 9 → i < length digits
    → number ≡ digits_value 10 (take i digits) → digit ≡ get_or digits i 0 - 48
    → number * 10 + digit < 2 ^ 32
stays_small digits i number digit each short within so_far is =
    let front : digits_value 10 (take (i + 1) digits) ≤ digits_value 10 digits = digits_value-take-le 10 digits (i + 1) (omega arith) in
    let all : digits_value 10 digits < 10 ^ length digits = digits_value-lt 10 digits (all_digits digits each) in
    let nine : 10 ^ length digits ≤ 10 ^ 9 = pow-le-pow_right (omega arith) short in
    omega (arith, one_more digits i number digit each within so_far is)
