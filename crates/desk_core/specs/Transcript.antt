-- A copy of status changes, from which watches are told apart from the desk.
use Rattle.std.specs.Prelude.{◌≡◌, ℕ, ◌+◌, ◌≤◌, Option, List, length, take, drop}
use Rattle.desk_core.specs.declared.change.Change.{Change}
use Rattle.tail.specs.Tail.{forgotten}

-- a copy: the changes that it holds, the oldest first; how many there were before those; of how many a desk has it, or of all; and for
-- how many there is memory
pub record TranscriptState : Type 0 where
  pub held : List Change
  pub gone : ℕ
  pub kept : Option ℕ
  pub capacity : ℕ

-- it is a copy of these changes: it holds all but some of those that are forgotten
pub record IsCopy (copy : TranscriptState) (changes : List Change) : Type 0 where
  pub rest : copy.held ≡ drop copy.gone changes
  pub last : copy.gone ≤ forgotten copy.kept (length changes)

-- it is a copy of a front of these changes
pub record IsCopyWithin (copy : TranscriptState) (changes : List Change) : Type 0 where
  pub few : copy.gone + length copy.held ≤ length changes
  pub copies : IsCopy copy (take (copy.gone + length copy.held) changes)
