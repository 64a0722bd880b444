use Rattle.health_wire.specs.Varint.{AllContinue}
use Rattle.health_wire.proofs.varint.varint_len.Given as goal

abbrev pub invariant-loop-i : goal.invariant-loop-i
invariant-loop-i l = AllContinue l.front l.i
