-- The first line of a setup whose change was not made.
use Rattle.std.specs.Prelude.{ℕ, ◌≡◌, Bool, true, false, Some, List, take, Result, Ok, Err}
use Rattle.std.specs.List.{All, slice_get}
use Rattle.desk_core.specs.declared.refusal.Refusal.{Refusal}
use Rattle.desk_core.specs.declared.reply.Reply.{Reply}
use Rattle.desk_core.specs.declared.reply.Reply.TheVariants.{Done, Replaced, Missing, WrongKind, Ignored}
use Rattle.live_run.specs.declared.refused_line.RefusedLine.{RefusedLine}

-- the change was made as it was asked for
abbrev pub is_made : Result Reply Refusal → Bool
is_made (Ok Done) = true
is_made (Ok Replaced) = true
is_made (Ok Missing) = false
is_made (Ok WrongKind) = false
is_made (Ok Ignored) = false
is_made (Err refusal) = false

abbrev pub IsMade : Result Reply Refusal → Type 0
IsMade result = is_made result ≡ true

-- the line has a result that was not made, with this number and this answer, and all results before it were made
pub record IsFirstRefused (numbers : List ℕ) (results : List (Result Reply Refusal)) (line : RefusedLine) : Type 0 where
  pub place : ℕ
  pub number : slice_get numbers place ≡ Some line.number
  pub answer : slice_get results place ≡ Some line.answer
  pub refused : is_made line.answer ≡ false
  pub before : All IsMade (take place results)
