use Rattle.health_wire.proofs.RoundTrip.{request_again, service_again, response_again}
use Rattle.health_wire.proofs.laws.round_trip.Goals as goal

pub returns-clause-request : goal.returns-clause-request
returns-clause-request c = request_again

pub returns-clause-service : goal.returns-clause-service
returns-clause-service c = service_again

pub returns-clause-response : goal.returns-clause-response
returns-clause-response c = response_again
