use Rattle.std.proofs.Common.{◌≡◌, length}
use Rattle.std.specs.List.{list_all}
use Rattle.grpc_frame.specs.Lines.{lines, has_colon}
use Rattle.grpc_frame.proofs.lines.have_colons.Given as goal

abbrev pub invariant-loop-rest : goal.invariant-loop-rest
invariant-loop-rest l = list_all has_colon (lines l.rest) ≡ list_all has_colon (lines l.block)

abbrev pub decreases-loop-rest : goal.decreases-loop-rest
decreases-loop-rest l = length l.rest
