-- What a line that is told comes to: what was written of it, and what was read as its answer.
use Rattle.std.specs.Prelude.{ℕ, ◌≡◌, ◌+◌, ◌≤◌, Option, None, Some, List, ◌++◌, length}
use Rattle.std.specs.Io.KnownBytes.{Appends, Consumes, IsAtEnd, Keeps}
use Rattle.control.specs.declared.line.TheConstants.{MAX_LINE_LEN}
use Rattle.control.specs.declared.answer_fault.AnswerFault.{AnswerFault}
use Rattle.control.specs.declared.answer_fault.AnswerFault.TheVariants.{Write, Read, NoAnswer, TooLong, OutOfMemory}
use Rattle.control.specs.Line.{IsPartOfLine, IsSilent, ended}

-- a writer took a front of the text, which may be all of it
pub record AppendsFront (before after : Option (List ℕ)) (text : List ℕ) : Type 0 where
  pub front : List ℕ
  pub rest : List ℕ
  pub parts : text ≡ front ++ rest
  pub appended : Appends before after front

-- a reader gave these bytes, which are part of a line
pub record IsPartRead (before after : Option (List ℕ)) (bytes : List ℕ) : Type 0 where
  pub consumed : Consumes before after bytes
  pub part : IsPartOfLine bytes

-- the answer is the bytes up to the first line feed, behind which nothing was read
pub record IsAnswer (before after : Option (List ℕ)) (answer : List ℕ) : Type 0 where
  pub consumed : Consumes before after (ended answer)
  pub part : IsPartOfLine answer
  pub short : length answer ≤ MAX_LINE_LEN

-- what a line comes to: a silent one has no answer, and nothing was read; any other has its answer
abbrev pub IsAnswered : List ℕ → Option (List ℕ) → Option (List ℕ) → Option (List ℕ) → Type 0
IsAnswered line before after None = IsSilent line × Keeps before after
IsAnswered line before after (Some answer) = ¬ IsSilent line × IsAnswer before after answer

-- what a fault says of the writer, before and after, and of the reader
abbrev pub IsAnswerFault : List ℕ → Option (List ℕ) → Option (List ℕ) → Option (List ℕ) → Option (List ℕ) → AnswerFault → Type 0
IsAnswerFault line written written_after before after (Write error) = AppendsFront written written_after (ended line) × Keeps before after
IsAnswerFault line written written_after before after (Read error) = Appends written written_after (ended line)
    × ((bytes : List ℕ) × IsPartRead before after bytes × (length bytes ≤ MAX_LINE_LEN))
IsAnswerFault line written written_after before after NoAnswer = Appends written written_after (ended line)
    × ((bytes : List ℕ) × IsPartRead before after bytes × (length bytes ≤ MAX_LINE_LEN)) × IsAtEnd after
IsAnswerFault line written written_after before after TooLong = Appends written written_after (ended line)
    × ((bytes : List ℕ) × IsPartRead before after bytes × (length bytes ≡ MAX_LINE_LEN + 1))
IsAnswerFault line written written_after before after OutOfMemory = Keeps written written_after × Keeps before after
