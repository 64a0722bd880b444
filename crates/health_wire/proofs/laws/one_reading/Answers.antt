use Rattle.health_wire.proofs.MessageLemmas.{one_message, one_message_fault, no_message}
use Rattle.health_wire.proofs.laws.one_reading.Goals as goal

pub returns-clause-fields : goal.returns-clause-fields
returns-clause-fields c = one_message

pub returns-clause-fault : goal.returns-clause-fault
returns-clause-fault c = one_message_fault

pub returns-clause-either : goal.returns-clause-either
returns-clause-either c bytes a b = λ is wrong. no_message bytes b a wrong is
