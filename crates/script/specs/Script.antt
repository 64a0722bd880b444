-- What a script says.
use Rattle.std.specs.Prelude.{ℕ, suc, ◌≡◌, ◌≢◌, ◌<◌, ◌≤◌, List, [], ◌∷◌, length, codes}
use Rattle.std.specs.Str.{IsUtf8}
use Rattle.desk_core.specs.declared.order.Order.{Order as OrderOf}
use Rattle.script.specs.declared.expectation.Expectation.{Expectation}
use Rattle.script.specs.declared.expectation.ScriptExpectation.{ScriptExpectation}
use Rattle.script.specs.declared.line.Line.{Line}
use Rattle.script.specs.declared.line.Line.TheVariants.{Register, Retire, Order, Check, Open, Step, Board}
use Rattle.script.specs.declared.script.Mode.{Mode}
use Rattle.script.specs.declared.script.Mode.TheVariants.{Replay, Serve, Run}
use Rattle.script.specs.declared.script_fault.ScriptFault.{ScriptFault}
use Rattle.script.specs.declared.script_fault.ScriptFault.TheVariants.{TooLong, NotText, BadLine}
use Rattle.script.specs.TextLines.{Left, left_from, first_numbers}
use Rattle.script.specs.Expectation.{IsExpectationText}
use Rattle.script.specs.Line.{IsLineText, IsOrderText}
use Rattle.script.specs.Opening.{TakesCatalogue, TakesMax, IsCatalogueFault, IsMaxFault}

-- a script: the names of its catalogue, the most entries of its journal, its lines, the number of each in the text, its expectations, and
-- the orders behind its line `go`
pub record ScriptParts : Type 0 where
  pub names : List (List ℕ)
  pub max : ℕ
  pub lines : List Line
  pub numbers : List ℕ
  pub expectations : List ScriptExpectation
  pub orders : List OrderOf

-- how many watches there are after a line
abbrev pub watches_after : Line → ℕ → ℕ
watches_after (Register name rule) watches = watches
watches_after (Retire name) watches = watches
watches_after (Order order) watches = watches
watches_after (Check name) watches = watches
watches_after (Open name) watches = suc watches
watches_after (Step k) watches = watches
watches_after Board watches = watches

-- a step is one of a watch that an earlier line opened
abbrev pub IsStepOfOpened : Line → ℕ → Type 0
IsStepOfOpened (Register name rule) watches = Unit {0}
IsStepOfOpened (Retire name) watches = Unit {0}
IsStepOfOpened (Order order) watches = Unit {0}
IsStepOfOpened (Check name) watches = Unit {0}
IsStepOfOpened (Open name) watches = Unit {0}
IsStepOfOpened (Step k) watches = k < watches
IsStepOfOpened Board watches = Unit {0}

-- all steps of the lines are, where there are so many watches before them
abbrev pub StepsFollow : ℕ → List Line → Type 0
StepsFollow watches [] = Unit {0}
StepsFollow watches (line ∷ lines) = IsStepOfOpened line watches × StepsFollow (watches_after line watches) lines

-- the line changes the registry, and asks nothing of it
abbrev pub IsChange : Line → Type 0
IsChange (Register name rule) = Unit {0}
IsChange (Retire name) = Unit {0}
IsChange (Order order) = Unit {0}
IsChange (Check name) = ⊥
IsChange (Open name) = ⊥
IsChange (Step k) = ⊥
IsChange Board = ⊥

-- the line may stand behind lines that opened so many watches. A script to be served or to run has changes alone
abbrev pub IsAllowed : Mode → ℕ → Line → Type 0
IsAllowed Replay watches line = IsStepOfOpened line watches
IsAllowed Serve watches line = IsChange line
IsAllowed Run watches line = IsChange line

-- the text is a line that may stand there
pub record IsNextLine (mode : Mode) (names : List (List ℕ)) (watches : ℕ) (text : List ℕ) (line : Line) : Type 0 where
  pub is : IsLineText names text line
  pub allowed : IsAllowed mode watches line

-- the text is an expectation, which may stand in a script to run
pub record IsNextExpectation (mode : Mode) (text : List ℕ) (expectation : Expectation) : Type 0 where
  pub runs : mode ≡ Run
  pub is : IsExpectationText text expectation

-- the text may stand behind the opening of a script to run
pub data MayRun (names : List (List ℕ)) (text : List ℕ) : Type 0 where
  RunsLine : (line : Line) → IsNextLine Run names 0 text line → MayRun names text
  RunsExpectation : (expectation : Expectation) → IsNextExpectation Run text expectation → MayRun names text

-- the text is the line `go`, which may stand in a script to be served
pub record IsGo (mode : Mode) (text : List ℕ) : Type 0 where
  pub serves : mode ≡ Serve
  pub is : text ≡ codes "go"

-- an expectation with the number of its line in the text, behind so many other lines
abbrev pub standing : ℕ → ℕ → Expectation → ScriptExpectation
standing number behind expectation = record { expectation = expectation; number = number; behind = behind }

-- the lines come apart into expectations and the others, behind so many others
pub data PartsLines (mode : Mode) : ℕ → List (ℕ × List ℕ) → List ScriptExpectation → List (ℕ × List ℕ) → Type 0 where
  NoneLeft : (behind : ℕ) → PartsLines mode behind [] [] []
  IsOne : (behind number : ℕ) (text : List ℕ) (expectation : Expectation) (rest others : List (ℕ × List ℕ)) (expectations : List ScriptExpectation)
      → IsNextExpectation mode text expectation → PartsLines mode behind rest expectations others
      → PartsLines mode behind ((number, text) ∷ rest) (standing number behind expectation ∷ expectations) others
  IsOther : (behind number : ℕ) (text : List ℕ) (rest others : List (ℕ × List ℕ)) (expectations : List ScriptExpectation)
      → ((expectation : Expectation) → ¬ IsNextExpectation mode text expectation) → PartsLines mode (suc behind) rest expectations others
      → PartsLines mode behind ((number, text) ∷ rest) expectations ((number, text) ∷ others)

-- what is left of a text comes apart into expectations and the other lines
pub record Parts (mode : Mode) (left : Left) (expectations : List ScriptExpectation) (others : Left) : Type 0 where
  pub lines : PartsLines mode 0 left.lines expectations others.lines
  pub end : others.end ≡ left.end

-- the lines up to `go` or to the end, behind lines that opened so many watches, and what is left behind `go`
pub data TakesLines (mode : Mode) (names : List (List ℕ)) : ℕ → List (ℕ × List ℕ) → List Line → List (ℕ × List ℕ) → Type 0 where
  AtEnd : (watches : ℕ) → TakesLines mode names watches [] [] []
  AtGo : (watches number : ℕ) (text : List ℕ) (rest : List (ℕ × List ℕ)) → IsGo mode text
      → TakesLines mode names watches ((number, text) ∷ rest) [] rest
  NextLine : (watches number : ℕ) (text : List ℕ) (line : Line) (body rest : List (ℕ × List ℕ)) (lines : List Line)
      → IsNextLine mode names watches text line → TakesLines mode names (watches_after line watches) body lines rest
      → TakesLines mode names watches ((number, text) ∷ body) (line ∷ lines) rest

-- the first line that is neither `go` nor a line nor an expectation that may stand there
pub data IsLinesFault (mode : Mode) (names : List (List ℕ)) : ℕ → List (ℕ × List ℕ) → ScriptFault → Type 0 where
  BadHere : (watches number : ℕ) (text : List ℕ) (rest : List (ℕ × List ℕ)) → ¬ IsGo mode text
      → ((expectation : Expectation) → ¬ IsNextExpectation mode text expectation)
      → ((line : Line) → ¬ IsNextLine mode names watches text line) → IsLinesFault mode names watches ((number, text) ∷ rest) (BadLine number)
  BadLater : (watches number : ℕ) (text : List ℕ) (line : Line) (rest : List (ℕ × List ℕ)) (fault : ScriptFault)
      → IsNextLine mode names watches text line → IsLinesFault mode names (watches_after line watches) rest fault
      → IsLinesFault mode names watches ((number, text) ∷ rest) fault
  BadBehind : (watches number : ℕ) (text : List ℕ) (expectation : Expectation) (rest : List (ℕ × List ℕ)) (fault : ScriptFault)
      → IsNextExpectation mode text expectation → IsLinesFault mode names watches rest fault
      → IsLinesFault mode names watches ((number, text) ∷ rest) fault

-- each line is the order in its place
pub data AreOrders : List (ℕ × List ℕ) → List OrderOf → Type 0 where
  NoOrder : AreOrders [] []
  NextOrder : (number : ℕ) (text : List ℕ) (order : OrderOf) (rest : List (ℕ × List ℕ)) (orders : List OrderOf) → IsOrderText text order
      → AreOrders rest orders → AreOrders ((number, text) ∷ rest) (order ∷ orders)

-- the first line that is no order
pub data IsOrdersFault : List (ℕ × List ℕ) → ScriptFault → Type 0 where
  NotHere : (number : ℕ) (text : List ℕ) (rest : List (ℕ × List ℕ)) → ((order : OrderOf) → ¬ IsOrderText text order)
      → IsOrdersFault ((number, text) ∷ rest) (BadLine number)
  NotLater : (number : ℕ) (text : List ℕ) (order : OrderOf) (rest : List (ℕ × List ℕ)) (fault : ScriptFault) → IsOrderText text order
      → IsOrdersFault rest fault → IsOrdersFault ((number, text) ∷ rest) fault

-- the bytes are few enough, and text
pub record IsText (bytes : List ℕ) : Type 0 where
  pub short : length bytes ≤ 65536
  pub text : IsUtf8 bytes

-- the text opens with a catalogue, and with how many entries there may be, and this is left behind them
pub record Opens (mode : Mode) (bytes : List ℕ) (names : List (List ℕ)) (max : ℕ) (rest : Left) : Type 0 where
  pub is_text : IsText bytes
  pub behind_catalogue : Left
  pub catalogue : TakesCatalogue (left_from mode 1 bytes) names behind_catalogue
  pub most : TakesMax mode behind_catalogue max rest

-- the bytes are this script
pub record IsScript (mode : Mode) (bytes : List ℕ) (script : ScriptParts) : Type 0 where
  pub opened : Left
  pub body : Left
  pub behind_go : List (ℕ × List ℕ)
  pub opens : Opens mode bytes script.names script.max opened
  pub parts : Parts mode opened script.expectations body
  pub lines : TakesLines mode script.names 0 body.lines script.lines behind_go
  pub numbers : script.numbers ≡ first_numbers (length script.lines) body.lines
  pub orders : AreOrders behind_go script.orders

-- why the bytes are no script: the first fault, by rules
pub data IsScriptFault (mode : Mode) (bytes : List ℕ) : ScriptFault → Type 0 where
  -- too many bytes, which counts before all else
  Long : 65536 < length bytes → IsScriptFault mode bytes TooLong
  -- no text
  NoText : length bytes ≤ 65536 → ¬ IsUtf8 bytes → IsScriptFault mode bytes NotText
  -- a fault of the first line
  InCatalogue : (fault : ScriptFault) → IsText bytes → IsCatalogueFault (left_from mode 1 bytes) fault → IsScriptFault mode bytes fault
  -- a fault of the second line, behind a catalogue, where it has to say how many entries there may be
  InMax : (names : List (List ℕ)) (rest : Left) (fault : ScriptFault) → IsText bytes → TakesCatalogue (left_from mode 1 bytes) names rest
      → mode ≢ Run → IsMaxFault rest fault → IsScriptFault mode bytes fault
  -- a fault of a line behind the opening, up to `go`
  InLines : (names : List (List ℕ)) (max : ℕ) (opened : Left) (fault : ScriptFault) → Opens mode bytes names max opened
      → IsLinesFault mode names 0 opened.lines fault → IsScriptFault mode bytes fault
  -- a fault of a line behind `go`
  InOrders : (names : List (List ℕ)) (max : ℕ) (opened body : Left) (expectations : List ScriptExpectation) (lines : List Line)
      (behind_go : List (ℕ × List ℕ)) (fault : ScriptFault)
      → Opens mode bytes names max opened → Parts mode opened expectations body → TakesLines mode names 0 body.lines lines behind_go → IsOrdersFault behind_go fault
      → IsScriptFault mode bytes fault
