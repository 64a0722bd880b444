use Rattle.std.proofs.Common.{length}
use Rattle.health_wire.specs.Response.{number_of}
use Rattle.health_wire.proofs.MessageLemmas.{HasRead}
use Rattle.health_wire.proofs.response.read_response.Given as goal

abbrev pub invariant-loop-rest : goal.invariant-loop-rest
invariant-loop-rest l = HasRead number_of l.fn.bytes l.rest l.status

abbrev pub decreases-loop-rest : goal.decreases-loop-rest
decreases-loop-rest l = length l.rest
