use Rattle.std.proofs.Common.{length, List, map}
use Rattle.health_wire.specs.Field.{WireField, field_of}
use Rattle.health_wire.proofs.MessageLemmas.{HasRead}
use Rattle.health_wire.proofs.message.fields.Given as goal

abbrev pub invariant-loop-rest : goal.invariant-loop-rest
invariant-loop-rest l = HasRead (λ (fields : List WireField). fields) l.fn.bytes l.rest (map field_of l.fields.items)

abbrev pub decreases-loop-rest : goal.decreases-loop-rest
decreases-loop-rest l = length l.rest
