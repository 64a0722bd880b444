-- How the entries of a file stand for a longer journal.
use Rattle.std.specs.Prelude.{◌≡◌, ◌+◌, List, ◌++◌, length}
use Rattle.desk_core.specs.declared.entry.Entry.{Entry}
use Rattle.desk_core.specs.Legal.{IsLegal}
use Rattle.desk_core.specs.Past.{past}
use Rattle.journal_store.specs.Alike.{AreAlike}
use Rattle.journal_store.specs.Preface.{Front}

-- A run began with one preface, and its file has another: the file has short entries in place of the older ones of the journal, which no
-- later change can tell from them, and the newer ones one by one. Both prefaces count the same history
pub record StandFor (start front : Front) (entries journal : List Entry) : Type 0 where
  pub names : front.names ≡ start.names
  pub older : List Entry
  pub short : List Entry
  pub newer : List Entry
  pub whole : journal ≡ older ++ newer
  pub file : entries ≡ short ++ newer
  pub alike : AreAlike (past short) (past older)
  pub legal : IsLegal (past short) → IsLegal (past older)
  pub condensed : length short ≡ front.condensed
  pub base : front.base + length short ≡ start.base + length older

-- the next preface of a file in which these short entries take the place of the first, those that were taken into a digest
pub record IsNext (front next : Front) (taken short : List Entry) : Type 0 where
  pub names : next.names ≡ front.names
  pub condensed : length short ≡ next.condensed
  pub base : next.base + length short ≡ front.base + length taken
