use Rattle.std.proofs.Common.{arith}
use Rattle.health_wire.specs.Varint.IsVarintFault.{Cut, Endless}
use Rattle.health_wire.proofs.varint.varint_at.Goals as goal

pub returns-in-None-clause-fault : goal.returns-in-None-clause-fault
returns-in-None-clause-fault c = Cut (omega arith) (λ k below. c.in-None.ensures.none k (omega arith))

pub returns-in-None-2-clause-fault : goal.returns-in-None-2-clause-fault
returns-in-None-2-clause-fault c = Endless (omega arith) (λ k below. c.in-None.ensures.none k (omega arith))
