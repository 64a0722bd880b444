use Rattle.std.proofs.Common.{length}
use Rattle.record_log.specs.Log.{texts}
use Rattle.record_log.proofs.ReadingLemmas.{IsReadUpTo}
use Rattle.record_log.proofs.reading.read_entries.Given as goal

abbrev pub invariant-loop-entry : goal.invariant-loop-entry
invariant-loop-entry l = IsReadUpTo l.bytes (texts l.found.items) l.rest

abbrev pub decreases-loop-entry : goal.decreases-loop-entry
decreases-loop-entry l = length l.rest
