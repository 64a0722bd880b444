use Rattle.std.proofs.Common.{◌≡◌, take}
use Rattle.record_log.specs.Log.{texts}
use Rattle.journal_store.proofs.preface.Preface.new.Given as goal

abbrev pub invariant-loop-number : goal.invariant-loop-number
invariant-loop-number l = texts l.names.items ≡ take l.number l.catalogue
