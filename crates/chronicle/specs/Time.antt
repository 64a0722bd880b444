-- Times as RFC 3339 texts in UTC.
use Rattle.std.specs.Prelude.{◌≡◌, ℕ, ◌+◌, ◌*◌, ◌/◌, ◌%◌, List, [], ◌∷◌, ◌++◌, pos, unsigned_abs}
use Rattle.jiff.specs.Words.{civil_nanos}
use Rattle.jiff.specs.Types.{DateTime}

-- the last two decimal digits of a number
abbrev pub two_digits : ℕ → List ℕ
two_digits n = (48 + n / 10 % 10) ∷ (48 + n % 10) ∷ []

-- the last six decimal digits of a number
abbrev pub six_digits : ℕ → List ℕ
six_digits n = two_digits (n / 10000) ++ two_digits (n / 100) ++ two_digits n

-- a date, as 2026-11-26, and a time of day, as 01:45:09.123456, with T between them and Z behind them
abbrev pub utc_text : DateTime → List ℕ
utc_text at =
    two_digits (unsigned_abs at.date.year / 100) ++ two_digits (unsigned_abs at.date.year)
    ++ 45 ∷ two_digits at.date.month ++ 45 ∷ two_digits at.date.day
    ++ 84 ∷ two_digits at.time.hour ++ 58 ∷ two_digits at.time.minute ++ 58 ∷ two_digits at.time.second
    ++ 46 ∷ six_digits (at.time.subsec_nanosecond / 1000) ++ 90 ∷ []

-- the text of the datetime that many microseconds after the start of 1970
abbrev pub IsTextOf : ℕ → List ℕ → Type 0
IsTextOf micros text = (at : DateTime) × (civil_nanos at ≡ pos (micros * 1000)) × (text ≡ utc_text at)
