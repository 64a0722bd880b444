use Rattle.grpc_frame.proofs.Splits.{taken_front}
use Rattle.grpc_frame.specs.Split.{BeginsWithFrame}
use Rattle.std.proofs.Common.{sym, subst, arith}
use Rattle.grpc_frame.proofs.splitter.Splitter.take.Goals as goal

pub returns-clause-frame : goal.returns-clause-frame
returns-clause-frame c =
    subst (BeginsWithFrame _ _ _) (sym c.without_front-self-inside.ensures.rest)
    (taken_front c.self.inside.buffer.items _ _ _ _ _ _ c.self.inside.start _ (omega arith) (omega arith) c.self.view_is c.rest-bytes.ensures c.in-Some.ensures.found c.in_ok-body.ensures.items)
