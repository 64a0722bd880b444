use Rattle.grpc_frame.proofs.Runs.{one_first, too_long_none}
use Rattle.grpc_frame.proofs.laws.first_frame.Goals as goal

pub returns-clause-only : goal.returns-clause-only
returns-clause-only c = one_first

pub returns-clause-too_long : goal.returns-clause-too_long
returns-clause-too_long c = too_long_none
