use Rattle.std.proofs.Common.{take}
use Rattle.desk_core.specs.Past.{past}
use Rattle.journal_store.specs.Digest.{IsDigest}
use Rattle.journal_store.specs.Record.{restored_of}
use Rattle.journal_store.proofs.condensing.digest_of.Given as goal

abbrev pub invariant-loop-number : goal.invariant-loop-number
invariant-loop-number l = IsDigest l.digest (past (restored_of (take l.number l.stored)))
