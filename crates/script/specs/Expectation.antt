-- The line `expect`: from then on a service has to be reported at least every so many seconds.
use Rattle.std.specs.Prelude.{ℕ, ◌≤◌, List, [], ◌∷◌, codes}
use Rattle.script.specs.declared.expectation.Expectation.{Expectation}
use Rattle.script.specs.TextLines.{AreWords}
use Rattle.script.specs.Word.{name_of, IsNumber}

-- the word is a number of seconds, and at most those of a day
pub record IsSeconds (word : List ℕ) (seconds : ℕ) : Type 0 where
  pub number : IsNumber word seconds
  pub most : seconds ≤ 86400

-- a service of this name has to be reported at least every so many seconds
abbrev pub expects : List ℕ → ℕ → Expectation
expects name seconds = record { name = name; seconds = seconds }

-- the words give an expectation
pub data IsExpectation : List (List ℕ) → Expectation → Type 0 where
  ExpectLine : (name word : List ℕ) (seconds : ℕ) → IsSeconds word seconds
      → IsExpectation (codes "expect" ∷ name ∷ word ∷ []) (expects (name_of name) seconds)

-- the text of a line gives an expectation
pub record IsExpectationText (text : List ℕ) (expectation : Expectation) : Type 0 where
  pub words : List (List ℕ)
  pub are : AreWords text words
  pub is : IsExpectation words expectation
