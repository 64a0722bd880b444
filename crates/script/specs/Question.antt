-- The lines `why`, `status` and `entry`, by which a session asks about the history.
use Rattle.std.specs.Prelude.{ℕ, List, [], ◌∷◌, codes}
use Rattle.script.specs.declared.question.Question.{Question}
use Rattle.script.specs.declared.question.Question.TheVariants.{Why, Status, Entry}
use Rattle.script.specs.TextLines.{AreWords}
use Rattle.script.specs.Word.{name_of, IsNumber}

-- the words ask this
pub data IsQuestion : List (List ℕ) → Question → Type 0 where
  WhyLine : (word : List ℕ) → IsQuestion (codes "why" ∷ word ∷ []) (Why (name_of word))
  StatusLine : (word : List ℕ) → IsQuestion (codes "status" ∷ word ∷ []) (Status (name_of word))
  EntryLine : (word : List ℕ) (place : ℕ) → IsNumber word place → IsQuestion (codes "entry" ∷ word ∷ []) (Entry place)

-- the text of a line does
pub record IsQuestionText (text : List ℕ) (question : Question) : Type 0 where
  pub words : List (List ℕ)
  pub are : AreWords text words
  pub is : IsQuestion words question
