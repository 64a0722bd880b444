use Rattle.std.proofs.Common.{take}
use Rattle.desk_core.specs.Past.{past}
use Rattle.journal_store.specs.Digest.{IsDigest}
use Rattle.journal_store.proofs.digest.Digest.of.Given as goal

abbrev pub invariant-loop-entry : goal.invariant-loop-entry
invariant-loop-entry l = IsDigest l.digest (past (take l.entry-index l.journal))
