use Rattle.grpc_frame.proofs.Messages.{alone}
use Rattle.grpc_frame.proofs.laws.read_back.Goals as goal

pub returns : goal.returns
returns c = alone
