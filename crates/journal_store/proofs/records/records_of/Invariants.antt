use Rattle.std.proofs.Common.{◌≡◌, ◌<◌, length, take}
use Rattle.std.specs.Prelude.{All}
use Rattle.record_log.specs.Log.{texts}
use Rattle.journal_store.specs.Record.{AreRecords}
use Rattle.journal_store.proofs.records.records_of.Given as goal

abbrev pub invariant-loop-entry : goal.invariant-loop-entry
invariant-loop-entry g l = record {
  of : AreRecords (texts l.batch.items) (take l.entry-index l.entries);
  short : All (λ bytes. length bytes.items < 256) l.batch.items;
  as_many : length l.batch.items ≡ l.entry-index;
}
