-- What a run makes of the file that a crash left of an earlier one.
use Rattle.std.specs.Prelude.{ℕ, List}
use Rattle.record_log.specs.Log.{StandsFor}
use Rattle.desk_core.specs.declared.entry.Entry.{Entry}
use Rattle.entry_record.specs.declared.stored.Stored.{Stored}
use Rattle.journal_store.specs.Preface.{Front, IsFront}
use Rattle.journal_store.specs.Read.{AreFound}
use Rattle.journal_store.specs.Record.{HasJournal}

-- A run began with the first preface, and a crash left a file that has this journal: the second preface and these entries are read in it
pub record IsReadAgain (start front : Front) (journal : List Entry) (stored : List Stored) : Type 0 where
  pub file : List ℕ
  pub has : HasJournal start file journal
  pub found : List (List ℕ)
  pub stands : StandsFor file found
  pub fits : IsFront front
  pub read : AreFound front found stored
