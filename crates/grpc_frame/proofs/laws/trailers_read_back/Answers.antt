use Rattle.grpc_frame.proofs.Readings.{read_back}
use Rattle.grpc_frame.proofs.laws.trailers_read_back.Goals as goal

pub returns : goal.returns
returns c = read_back
