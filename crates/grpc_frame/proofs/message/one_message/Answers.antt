use Rattle.grpc_frame.proofs.Messages.{two}
use Rattle.grpc_frame.proofs.message.one_message.Goals as goal

pub returns-in-Some-message_at-clause-fault : goal.returns-in-Some-message_at-clause-fault
returns-in-Some-message_at-clause-fault c =
    two _ _ _ _ _ c.in-Some.ensures.found c.in-Some-message_at.ensures.found
