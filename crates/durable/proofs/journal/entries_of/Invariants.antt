use Rattle.std.proofs.Common.{◌≡◌, take}
use Rattle.journal_store.specs.Record.{restored_of}
use Rattle.durable.proofs.journal.entries_of.Given as goal

abbrev pub invariant-loop-one : goal.invariant-loop-one
invariant-loop-one l = l.entries.items ≡ restored_of (take l.one-index l.stored)
