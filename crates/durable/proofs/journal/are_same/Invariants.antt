use Rattle.std.proofs.Common.{◌≡◌, take}
use Rattle.record_log.specs.Log.{texts}
use Rattle.durable.proofs.journal.are_same.Given as goal

abbrev pub invariant-loop-number : goal.invariant-loop-number
invariant-loop-number l = texts (take l.number l.fn.names) ≡ texts (take l.number l.fn.other)
