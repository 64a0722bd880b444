use Rattle.std.proofs.Common.{◌≡◌, length}
use Rattle.grpc_frame.specs.Lines.{trim_end}
use Rattle.grpc_frame.proofs.lines.trim_end.Given as goal

abbrev pub invariant-loop-trimmed : goal.invariant-loop-trimmed
invariant-loop-trimmed l = trim_end l.trimmed ≡ trim_end l.bytes

abbrev pub decreases-loop-trimmed : goal.decreases-loop-trimmed
decreases-loop-trimmed l = length l.trimmed
