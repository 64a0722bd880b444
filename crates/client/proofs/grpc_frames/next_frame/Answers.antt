use Rattle.client.proofs.GrpcFrameLemmas.{taken_there, none_there}
use Rattle.client.proofs.grpc_frames.next_frame.Goals as goal

pub returns-in-Ok-clause-frame : goal.returns-in-Ok-clause-frame
returns-in-Ok-clause-frame c =
    taken_there c.in-Ok.taken c.args.splitter.now c.args.piece.now c.feed.new.self c.take.new.self c.in_ok-feed.ensures.ok c.requires c.in-Ok.ensures.frame

pub returns-in-Ok-clause-none : goal.returns-in-Ok-clause-none
returns-in-Ok-clause-none c =
    none_there c.in-Ok.taken c.args.splitter.now c.args.piece.now c.feed.new.self c.take.new.self c.in_ok-feed.ensures.ok c.in-Ok.ensures.none c.in-Ok.ensures.stays
