-- What a line of a session asks for.
use Rattle.std.specs.Prelude.{ℕ, ◌≡◌, List, codes}
use Rattle.script.specs.declared.expectation.Expectation.{Expectation}
use Rattle.script.specs.declared.line.Line.{Line}
use Rattle.script.specs.declared.question.Question.{Question}
use Rattle.script.specs.declared.line.Line.TheVariants.{Register, Retire, Order, Check, Open, Step, Board}
use Rattle.script.specs.Expectation.{IsExpectationText}
use Rattle.script.specs.Line.{IsLineText}
use Rattle.script.specs.Question.{IsQuestionText}
use Rattle.control.specs.declared.request.Request.{Request}
use Rattle.control.specs.declared.request.Request.TheVariants as requests
use Rattle.control.specs.declared.request.Request.TheVariants.{Ask, Expect, Stats, Stop}

-- the line opens no watch and steps none
abbrev pub IsOffered : Line → Type 0
IsOffered (Register name rule) = Unit {0}
IsOffered (Retire name) = Unit {0}
IsOffered (Order order) = Unit {0}
IsOffered (Check name) = Unit {0}
IsOffered (Open name) = ⊥
IsOffered (Step k) = ⊥
IsOffered Board = Unit {0}

-- the text is a line of a script that opens no watch and steps none
pub record IsOfferedText (names : List (List ℕ)) (text : List ℕ) (line : Line) : Type 0 where
  pub is : IsLineText names text line
  pub offered : IsOffered line

-- the text is one of three words
pub data IsWord : List ℕ → Request → Type 0 where
  ForList : (text : List ℕ) → text ≡ codes "list" → IsWord text requests.List
  ForStats : (text : List ℕ) → text ≡ codes "stats" → IsWord text Stats
  ForStop : (text : List ℕ) → text ≡ codes "stop" → IsWord text Stop

-- the text asks for this, where the catalogue has these names
pub data IsRequest (names : List (List ℕ)) : List ℕ → Request → Type 0 where
  OfLine : (text : List ℕ) (line : Line) → IsOfferedText names text line → IsRequest names text (requests.Line line)
  OfExpectation : (text : List ℕ) (expectation : Expectation) → IsExpectationText text expectation
      → IsRequest names text (Expect expectation)
  OfQuestion : (text : List ℕ) (question : Question) → IsQuestionText text question → IsRequest names text (Ask question)
  OfWord : (text : List ℕ) (request : Request) → IsWord text request → IsRequest names text request

-- the request is no line that opens or steps a watch
abbrev pub IsOfferedRequest : Request → Type 0
IsOfferedRequest (requests.Line line) = IsOffered line
IsOfferedRequest (Expect expectation) = Unit {0}
IsOfferedRequest (Ask question) = Unit {0}
IsOfferedRequest requests.List = Unit {0}
IsOfferedRequest Stats = Unit {0}
IsOfferedRequest Stop = Unit {0}
