use Rattle.std.proofs.Common.{◌≡◌, ◌++◌, take}
use Rattle.record_log.specs.Log.{texts}
use Rattle.journal_store.proofs.preface.put_copies.Given as goal

abbrev pub invariant-loop-name : goal.invariant-loop-name
invariant-loop-name l = texts l.records.items ≡ texts l.fn.records.items ++ texts (take l.name-index l.names)
