use Rattle.std.proofs.Common.{Some, None, sym}
use Rattle.health_wire.specs.Response.{status_in, number_of}
use Rattle.health_wire.proofs.MessageLemmas.{next, last_given-more}
use Rattle.health_wire.proofs.response.read_response.Goals as goal

pub loop-rest-preserved-in-Some : goal.loop-rest-preserved-in-Some
loop-rest-preserved-in-Some c = next number_of _ _ _ _ _ _ c.loop-rest.invariant c.in_ok-field.ensures.found
    (last_given-more status_in 0 _ (Some c.in-Some.number) (sym c.in-Some.ensures) c.loop-rest.status)

pub loop-rest-preserved : goal.loop-rest-preserved
loop-rest-preserved c = next number_of _ _ _ _ _ _ c.loop-rest.invariant c.in_ok-field.ensures.found (last_given-more status_in 0 _ None (sym c.in_default.ensures) c.loop-rest.status)
