use Rattle.desk_core.specs.Past.{past}
use Rattle.journal_store.specs.Short.{AllCanStand, IsMade}
use Rattle.journal_store.proofs.digest.Digest.registrations.Given as goal

abbrev pub invariant-loop-number : goal.invariant-loop-number
invariant-loop-number l = AllCanStand l.self-inside.slots → IsMade l.self-inside.slots l.number (past l.entries.items)
