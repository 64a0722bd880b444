-- Which entries of a file cannot be those of a registry.
use Rattle.std.specs.Prelude.{ℕ, ◌+◌, ◌<◌, List, length, take}
use Rattle.desk_core.specs.declared.entry.Entry.{Entry}
use Rattle.desk_core.specs.Past.{past}
use Rattle.desk_core.specs.Legal.{IsLegal}

-- the entry of this number is the first that is not legal: its call is not lawful, or its reply is not the one that the history before it
-- gives
pub record IsIllegalAt (journal : List Entry) (number : ℕ) : Type 0 where
  pub inside : number < length journal
  pub before : IsLegal (past (take number journal))
  pub first : ¬ IsLegal (past (take (number + 1) journal))
