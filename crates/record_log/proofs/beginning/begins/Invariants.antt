use Rattle.std.proofs.Common.{take}
use Rattle.record_log.specs.Log.{texts}
use Rattle.record_log.proofs.ReadingLemmas.{IsReadUpTo}
use Rattle.record_log.proofs.beginning.begins.Given as goal

abbrev pub invariant-loop-entry : goal.invariant-loop-entry
invariant-loop-entry l = IsReadUpTo l.bytes (take l.entry-index (texts l.entries)) l.rest
