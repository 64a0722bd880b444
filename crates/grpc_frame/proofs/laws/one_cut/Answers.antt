use Rattle.grpc_frame.proofs.Cuts.{are_lines, only_lines}
use Rattle.grpc_frame.proofs.laws.one_cut.Goals as goal

pub returns-clause-lines : goal.returns-clause-lines
returns-clause-lines c = are_lines

pub returns-clause-only : goal.returns-clause-only
returns-clause-only c = only_lines
