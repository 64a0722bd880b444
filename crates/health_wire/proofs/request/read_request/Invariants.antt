use Rattle.std.proofs.Common.{length}
use Rattle.health_wire.specs.Request.{name_of}
use Rattle.health_wire.proofs.MessageLemmas.{HasRead}
use Rattle.health_wire.proofs.request.read_request.Given as goal

abbrev pub invariant-loop-rest : goal.invariant-loop-rest
invariant-loop-rest l = HasRead name_of l.fn.bytes l.rest l.service

abbrev pub decreases-loop-rest : goal.decreases-loop-rest
decreases-loop-rest l = length l.rest
