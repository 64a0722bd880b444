use Rattle.std.proofs.Common.{◌<◌, length, take}
use Rattle.std.specs.Prelude.{All}
use Rattle.record_log.specs.Log.{texts}
use Rattle.journal_store.specs.Read.{AreRead}
use Rattle.journal_store.proofs.reading.read_records.Given as goal

abbrev pub invariant-loop-number : goal.invariant-loop-number
invariant-loop-number l = record {
  read : AreRead (take l.number (texts l.found)) l.stored.items;
  short : All (λ bytes. length bytes.items < 256) (take l.number l.found);
}
