use Rattle.plain.proofs.NameLemmas.{IsBehind}
use Rattle.plain.proofs.escapes.slot_named.Given as goal

abbrev pub invariant-loop-number : goal.invariant-loop-number
invariant-loop-number l = IsBehind l.name l.catalogue l.number
