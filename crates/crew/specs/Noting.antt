-- How reports are noted.
use Rattle.std.specs.Prelude.{ℕ, ◌≡◌, Option, Some, List, length, slice_get, All, Contains}
use Rattle.crew.specs.declared.call_end.CallEnd.{CallEnd}
use Rattle.crew.specs.Gather.{AreSound, numbers_of}

-- the reports are sound, each one's end stands at the place of its number, and at the other places stands none
pub record AreNoted (expected : ℕ) (reports : List (ℕ × CallEnd)) (places : List (Option CallEnd)) : Type 0 where
  pub len : length places ≡ expected
  pub sound : AreSound expected (numbers_of reports)
  pub placed : All (λ report. slice_get places report.0 ≡ Some (Some report.1)) reports
  pub noted : (number : ℕ) (end : CallEnd) → slice_get places number ≡ Some (Some end) → Contains (numbers_of reports) number
