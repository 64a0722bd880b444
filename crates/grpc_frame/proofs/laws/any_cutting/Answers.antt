use Rattle.grpc_frame.proofs.Runs.{run_whole, one_split, same_split}
use Rattle.grpc_frame.proofs.laws.any_cutting.Goals as goal

pub returns-clause-stream : goal.returns-clause-stream
returns-clause-stream c = run_whole

pub returns-clause-only : goal.returns-clause-only
returns-clause-only c = one_split

pub returns-clause-same : goal.returns-clause-same
returns-clause-same c = same_split
