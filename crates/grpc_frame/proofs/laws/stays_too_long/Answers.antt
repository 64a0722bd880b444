use Rattle.grpc_frame.proofs.Runs.{stays_too_long}
use Rattle.grpc_frame.proofs.laws.stays_too_long.Goals as goal

pub returns : goal.returns
returns c = stays_too_long
