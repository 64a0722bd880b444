use Rattle.std.proofs.Common.{arith}
use Rattle.grpc_frame.proofs.Splits.{over_tells, over_test}
use Rattle.grpc_frame.proofs.splitter.is_too_long.Goals as goal

pub returns : goal.returns
returns c =
    over_test _ _ (over_tells _ _ c.in-len5-up.len_at_least (λ i. omega (arith, c.type_inv.bytes i)) c.from_be_bytes.type_inv c.from_be_bytes.ensures)
