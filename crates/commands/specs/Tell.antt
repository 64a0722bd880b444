-- What the command `tell` reads of a server and prints of it, and its exit status.
use Rattle.std.specs.Prelude.{ℕ, ◌≡◌, ◌⊎◌, ◌↔◌, Option, List, [], ◌∷◌, ◌++◌}
use Rattle.std.specs.Io.KnownBytes.{Appends, Consumes}
use Rattle.control.specs.Answer.{IsRefused}
use Rattle.control.specs.Line.{ended}

-- lines, each with its line feed
abbrev pub lines_text : List (List ℕ) → List ℕ
lines_text [] = []
lines_text (line ∷ lines) = ended line ++ lines_text lines

-- one of the answers says that what was asked for was not done
abbrev pub HasRefused : List (List ℕ) → Type 0
HasRefused [] = ⊥
HasRefused (answer ∷ answers) = IsRefused answer ⊎ HasRefused answers

-- these answers were read, and printed as they were read, one after the other; the exit status is 3 if one of them refuses what was asked
-- for, and else 0
pub record HasTold (read read_now printed printed_now : Option (List ℕ)) (status : ℕ) : Type 0 where
  pub answers : List (List ℕ)
  pub has_read : Consumes read read_now (lines_text answers)
  pub has_printed : Appends printed printed_now (lines_text answers)
  pub refused : (status ≡ 3) ↔ HasRefused answers
  pub one_of_two : (status ≡ 0) ⊎ (status ≡ 3)
