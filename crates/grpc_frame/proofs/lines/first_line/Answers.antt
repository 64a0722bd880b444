use Rattle.std.proofs.Common.{arith}
use Rattle.grpc_frame.proofs.Cuts.{first_ends, line_whole}
use Rattle.grpc_frame.proofs.lines.first_line.Goals as goal

pub returns-then-bytes-i-eq10-clause-line : goal.returns-then-bytes-i-eq10-clause-line
returns-then-bytes-i-eq10-clause-line c =
    first_ends c.args.bytes.now c.loop-i.i (omega arith) (omega arith) c.loop-i.invariant c.if-bytes-i-eq13.true c.if-bytes-i-eq10.true

pub returns-clause-line : goal.returns-clause-line
returns-clause-line c = line_whole c.args.bytes.now c.requires (λ k below. c.loop-i.invariant k (omega arith))
