use Rattle.std.proofs.Common.{◌≡◌, ◌<◌, length, take}
use Rattle.std.specs.Prelude.{All}
use Rattle.record_log.specs.Log.{texts}
use Rattle.journal_store.proofs.preface.names_of.Given as goal

abbrev pub invariant-loop-record : goal.invariant-loop-record
invariant-loop-record l = record {
  names : texts l.names.items ≡ texts (take l.record-index l.records);
  short : All (λ bytes. length bytes.items < 256) l.names.items;
}
