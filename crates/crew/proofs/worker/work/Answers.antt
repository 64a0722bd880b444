use Rattle.hall.proofs.LookingLemmas.{looked_on}
use Rattle.crew.proofs.worker.work.Goals as goal

pub loop-preserved : goal.loop-preserved
loop-preserved g c = looked_on _ _ _ c.loop.invariant c.serve_one-end.ensures
