use Rattle.std.proofs.Common.{◌≡◌, length}
use Rattle.grpc_frame.specs.Lines.{lines, value_of}
use Rattle.grpc_frame.proofs.lines.value_of.Given as goal

abbrev pub invariant-loop-rest : goal.invariant-loop-rest
invariant-loop-rest l = value_of l.name (lines l.rest) ≡ value_of l.name (lines l.block)

abbrev pub decreases-loop-rest : goal.decreases-loop-rest
decreases-loop-rest l = length l.rest
