use Rattle.health_wire.proofs.PutLemmas.{HasPut}
use Rattle.health_wire.proofs.varint.put_varint.Given as goal

abbrev pub invariant-loop-rest : goal.invariant-loop-rest
invariant-loop-rest l = HasPut l.fn.out.items l.out.items l.value l.rest

abbrev pub decreases-loop-rest : goal.decreases-loop-rest
decreases-loop-rest l = l.rest
