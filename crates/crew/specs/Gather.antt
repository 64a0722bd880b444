-- The ends of calls, gathered from reports that come in any order. A report has the number of its call, and its end.
use Rattle.std.specs.Prelude.{ℕ, ◌≡◌, ◌≢◌, ◌<◌, ◌≤◌, List, map, take, length, slice_get, Some, All, AllPairs, Contains}
use Rattle.crew.specs.declared.call_end.CallEnd.{CallEnd}
use Rattle.crew.specs.declared.crew_why.CrewWhy.{CrewWhy}
use Rattle.crew.specs.declared.crew_why.CrewWhy.TheVariants.{Stranger, Doubled, Lost, NoMemory}

-- the numbers of the reports, in their order
abbrev pub numbers_of : List (ℕ × CallEnd) → List ℕ
numbers_of reports = map (λ report. report.0) reports

-- all numbers are below `expected`, and no two are the same
pub record AreSound (expected : ℕ) (numbers : List ℕ) : Type 0 where
  pub known : All (λ number. number < expected) numbers
  pub single : AllPairs (λ number other. number ≢ other) numbers

-- each number below `expected` stands there once, and no others do
pub record AreWhole (expected : ℕ) (numbers : List ℕ) : Type 0 where
  pub sound : AreSound expected numbers
  pub all : (number : ℕ) → number < expected → Contains numbers number

-- the ends of the calls, in the order of their numbers: each number below `expected` was reported once, with the end at its place
pub record IsGathered (expected : ℕ) (reports : List (ℕ × CallEnd)) (ends : List CallEnd) : Type 0 where
  pub whole : AreWhole expected (numbers_of reports)
  pub len : length ends ≡ expected
  pub placed : All (λ report. slice_get ends report.0 ≡ Some report.1) reports

-- why reports of these numbers are not gathered
pub data Fails (expected : ℕ) (numbers : List ℕ) : CrewWhy → Type 0 where
  -- a number is not below `expected`, and all before it are sound
  HasStranger : (place number : ℕ) → slice_get numbers place ≡ Some number → AreSound expected (take place numbers)
      → expected ≤ number → Fails expected numbers Stranger
  -- a number stood before, and all before it are sound
  HasDouble : (place number : ℕ) → slice_get numbers place ≡ Some number → AreSound expected (take place numbers)
      → Contains (take place numbers) number → Fails expected numbers Doubled
  -- the numbers are sound, and one is missing
  HasLoss : (number : ℕ) → AreSound expected numbers → number < expected → ¬ Contains numbers number → Fails expected numbers Lost
  -- nothing is wrong with the numbers, and memory ran out
  HasNoFault : AreWhole expected numbers → Fails expected numbers NoMemory
