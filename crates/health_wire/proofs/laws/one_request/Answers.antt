use Rattle.health_wire.proofs.RequestLemmas.{one_name, one_fault, no_fault}
use Rattle.health_wire.proofs.laws.one_request.Goals as goal

pub returns-clause-name : goal.returns-clause-name
returns-clause-name c = one_name

pub returns-clause-fault : goal.returns-clause-fault
returns-clause-fault c = one_fault

pub returns-clause-either : goal.returns-clause-either
returns-clause-either c = no_fault
