use Rattle.hall.proofs.Reread.{own_desk}
use Rattle.hall.proofs.gate.finish.Goals as goal

pub leave-requires-clause-desk : goal.leave-requires-clause-desk
leave-requires-clause-desk g c = own_desk c.commit.new.place.me c.args.entry.seat _ _ c.commit.ensures.desk
