-- The number that the digits of a content length write.
use Rattle.std.proofs.Common.{ℕ, ◌≡◌, ◌+◌, ◌-◌, ◌*◌, ◌^◌, ◌<◌, ◌≤◌, true, List, length, take, get_or, arith}
use Rattle.std.proofs.Math.Nat.{pow-le-pow_right}
use Rattle.std.proofs.lemmas.Int.Digits.{digits_value-lt}
use Rattle.std.proofs.lemmas.Str.Parse.{digits_value-take-le}
use Rattle.std.specs.Char.{is_ascii_digit}
use Rattle.std.specs.List.{list_all}
use Rattle.std.specs.Str.Parse.{digits_value}
use Rattle.grpc_frame.proofs.Digits.{all_digits, one_more}

-- at most 18 digits write a number that fits
pub stays_small : (digits : List ℕ) (i number digit : ℕ)
    → list_all is_ascii_digit digits ≡ true → length digits ≤ 18 → i < length digits
    → number ≡ digits_value 10 (take i digits) → digit ≡ get_or digits i 0 - 48
    → number * 10 + digit < 2 ^ 64
stays_small digits i number digit each short within so_far is =
    let front : digits_value 10 (take (i + 1) digits) ≤ digits_value 10 digits =
    digits_value-take-le 10 digits (i + 1) (omega arith) in
    let all : digits_value 10 digits < 10 ^ length digits = digits_value-lt 10 digits (all_digits digits each) in
    let most : 10 ^ length digits ≤ 10 ^ 18 = pow-le-pow_right (omega arith) short in
    omega (arith, one_more digits i number digit each within so_far is)
