-- What a message says of bytes that are no script to run.
use Rattle.std.specs.Prelude.{ℕ, ◌≡◌, ◌≢◌, ◌↔◌, ◌==◌, if◌then◌else◌, List, [], ◌∷◌, ◌++◌, codes, decimal, Option, None, Some, IsNone, IfSome, unwrap_or}
use Rattle.desk_core.specs.declared.catalogue.CatalogueFault.{CatalogueFault}
use Rattle.desk_core.specs.Fault.{fault_in, text_of}
use Rattle.script.specs.declared.complaint.Complaint.{Complaint}
use Rattle.script.specs.declared.script.Mode.TheVariants.{Run}
use Rattle.script.specs.declared.script_fault.ScriptFault.{ScriptFault}
use Rattle.script.specs.declared.script_fault.ScriptFault.TheVariants.{TooLong, NotText, BadLine, Catalogue, NoMemory}
use Rattle.script.specs.CatalogueComplaint.{text_in}
use Rattle.script.specs.Complaint.{complaint_text, IsSoOf}
use Rattle.script.specs.Opening.{IsCatalogueLine}
use Rattle.script.specs.Quoted.{quoted}
use Rattle.script.specs.Script.{MayRun, IsText}
use Rattle.script.specs.TextLines.{Left, left_from, with_line, AreWords}

-- the line with this number, if a byte of it is read
abbrev pub line_at : ℕ → List (ℕ × List ℕ) → Option (List ℕ)
line_at number [] = None
line_at number ((at, line) ∷ others) = if at == number then Some line else line_at number others

-- what is wrong, if anything is
abbrev pub found_told : Option Complaint → List ℕ
found_told None = []
found_told (Some complaint) = codes ": " ++ complaint_text complaint

-- a line is told with its number and its text, and with what is wrong with it
abbrev pub line_told : ℕ → List ℕ → Option Complaint → List ℕ
line_told number line found = (codes "script line " ++ decimal number ++ codes ": " ++ quoted line) ++ found_told found

-- what is wrong with a line behind the one that lists these names: nothing where it may stand there, and else what is so
pub record IsFound (names : List (List ℕ)) (line : List ℕ) (found : Option Complaint) : Type 0 where
  pub none : IsNone found ↔ MayRun names line
  pub so : IfSome found (IsSoOf names line)

-- what is wrong with a line of a script, by its number: with the first, that it lists no names; with another, what is found by the names
-- that the first lists, if they have no fault
pub data IsFoundAt (script : Left) (number : ℕ) (line : List ℕ) (found : Option Complaint) : Type 0 where
  OfFirst : (others : Left) → script ≡ with_line (number, line) others → (IsNone found ↔ (names : List (List ℕ)) × IsCatalogueLine line names)
      → IsFoundAt script number line found
  OfOther : (first : ℕ) (opening : List ℕ) (others : Left) → script ≡ with_line (first, opening) others → first ≢ number
      → ((names : List (List ℕ)) → IsCatalogueLine opening names → fault_in names ≡ None → IsFound names line found)
      → IsFoundAt script number line found

-- the text tells the line with this number
pub record TellsLine (script : Left) (number : ℕ) (line text : List ℕ) : Type 0 where
  pub found : Option Complaint
  pub is_found : IsFoundAt script number line found
  pub is : text ≡ line_told number line found

-- what is said of a line that is bad by its number: that there is none at all, or the line with that number
pub record ExplainsLine (script : Left) (number : ℕ) (text : List ℕ) : Type 0 where
  pub empty : script.lines ≡ [] → text ≡ codes "no catalogue line"
  pub line : IfSome (line_at number script.lines) (λ line. TellsLine script number line text)

-- what is said of a fault of the names that the first line lists
pub record ExplainsNames (script : Left) (fault : CatalogueFault) (text : List ℕ) : Type 0 where
  pub names : (number : ℕ) (line : List ℕ) (others : Left) (words : List (List ℕ)) → script ≡ with_line (number, line) others → AreWords line (codes "catalogue" ∷ words)
      → text ≡ codes "catalogue: " ++ unwrap_or (text_in words fault) (text_of fault)

-- what is said of bytes that are text and have this fault as a script to run
abbrev pub IsExplanation : List ℕ → ScriptFault → List ℕ → Type 0
IsExplanation bytes TooLong text = Unit {0}
IsExplanation bytes NotText text = Unit {0}
IsExplanation bytes (BadLine number) text = IsText bytes → ExplainsLine (left_from Run 1 bytes) number text
IsExplanation bytes (Catalogue fault) text = IsText bytes → ExplainsNames (left_from Run 1 bytes) fault text
IsExplanation bytes NoMemory text = Unit {0}
