use Rattle.grpc_frame.proofs.Messages.{one_answer}
use Rattle.grpc_frame.proofs.laws.one_answer.Goals as goal

pub returns : goal.returns
returns c = one_answer
