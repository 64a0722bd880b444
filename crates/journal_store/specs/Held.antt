-- What a store is to its callers.
use Rattle.std.specs.Prelude.{ℕ, Bool, List}
use Rattle.journal_store.specs.Kept.{Kept}
use Rattle.journal_store.specs.Preface.{Front}

-- what it keeps, whether its file is open, the blocks that were acknowledged, the preface, how long the blocks may be before the file is
-- written anew, and how long they may be in any case
pub record Held : Type 0 where
  pub kept : Kept
  pub is_open : Bool
  pub written : List ℕ
  pub front : Front
  pub limit : ℕ
  pub least : ℕ
