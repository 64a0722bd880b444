use Rattle.grpc_frame.proofs.Fronts.{one_front}
use Rattle.grpc_frame.proofs.laws.whole_frame.Goals as goal

pub returns-clause-only : goal.returns-clause-only
returns-clause-only c = one_front
