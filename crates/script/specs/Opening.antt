-- The opening of a script: the line with the names of its catalogue, and the line with the most entries of its journal, which a script to
-- run may lack.
use Rattle.std.specs.Prelude.{ℕ, ◌≡◌, ◌≢◌, List, [], ◌∷◌, codes, map, Option, None, Some}
use Rattle.desk_core.specs.declared.catalogue.CatalogueFault.{CatalogueFault}
use Rattle.desk_core.specs.Fault.{fault_in}
use Rattle.script.specs.declared.script_fault.ScriptFault.{ScriptFault}
use Rattle.script.specs.declared.script_fault.ScriptFault.TheVariants.{BadLine, Catalogue}
use Rattle.script.specs.declared.script.Mode.{Mode}
use Rattle.script.specs.declared.script.Mode.TheVariants.{Run}
use Rattle.script.specs.TextLines.{Left, with_line, AreWords}
use Rattle.script.specs.Word.{name_of, IsNumber}

-- the line lists these names, one or more
pub record IsCatalogueLine (line : List ℕ) (names : List (List ℕ)) : Type 0 where
  pub words : List (List ℕ)
  pub are : AreWords line (codes "catalogue" ∷ words)
  pub some : words ≢ []
  pub names_are : names ≡ map name_of words

-- the line says how many entries there may be
pub record IsMaxLine (line : List ℕ) (max : ℕ) : Type 0 where
  pub word : List ℕ
  pub are : AreWords line (codes "max" ∷ word ∷ [])
  pub number : IsNumber word max

-- the next line lists the names of a catalogue, and this is left behind it
pub record TakesCatalogue (left : Left) (names : List (List ℕ)) (rest : Left) : Type 0 where
  pub number : ℕ
  pub line : List ℕ
  pub parts : left ≡ with_line (number, line) rest
  pub is : IsCatalogueLine line names
  pub faultless : fault_in names ≡ None

-- the next line says how many entries there may be, and this is left behind it
pub record TakesMaxLine (left : Left) (max : ℕ) (rest : Left) : Type 0 where
  pub number : ℕ
  pub line : List ℕ
  pub parts : left ≡ with_line (number, line) rest
  pub is : IsMaxLine line max

-- there is no next line, or it is another one
abbrev pub HasNoMaxLine : Left → Type 0
HasNoMaxLine left = (max : ℕ) (rest : Left) → ¬ TakesMaxLine left max rest

-- what the next line says, and what is left then: all, where it says nothing
abbrev pub IsMaxSaid : Left → Option ℕ → Left → Type 0
IsMaxSaid left (Some max) rest = TakesMaxLine left max rest
IsMaxSaid left None rest = HasNoMaxLine left × (rest ≡ left)

-- how many entries there may be, and what is left then. A script to run that does not say it may have 2 ^ 32 - 1
pub data TakesMax (mode : Mode) (left : Left) : ℕ → Left → Type 0 where
  SaysMax : (max : ℕ) (rest : Left) → TakesMaxLine left max rest → TakesMax mode left max rest
  LeavesMaxOut : mode ≡ Run → HasNoMaxLine left → TakesMax mode left 4294967295 left

-- why no catalogue is taken: there is no line; it is another line; the names have a fault
pub data IsCatalogueFault : Left → ScriptFault → Type 0 where
  NoLine : (left : Left) → left.lines ≡ [] → IsCatalogueFault left (BadLine left.end)
  OtherLine : (number : ℕ) (line : List ℕ) (rest : Left) → ((names : List (List ℕ)) → ¬ IsCatalogueLine line names)
      → IsCatalogueFault (with_line (number, line) rest) (BadLine number)
  BadNames : (number : ℕ) (line : List ℕ) (rest : Left) (names : List (List ℕ)) (fault : CatalogueFault) → IsCatalogueLine line names
      → fault_in names ≡ Some fault → IsCatalogueFault (with_line (number, line) rest) (Catalogue fault)

-- why no most entries are taken, where a line has to say them: there is no line; it is another line
pub data IsMaxFault : Left → ScriptFault → Type 0 where
  NoMaxLine : (left : Left) → left.lines ≡ [] → IsMaxFault left (BadLine left.end)
  OtherMaxLine : (number : ℕ) (line : List ℕ) (rest : Left) → ((max : ℕ) → ¬ IsMaxLine line max)
      → IsMaxFault (with_line (number, line) rest) (BadLine number)
