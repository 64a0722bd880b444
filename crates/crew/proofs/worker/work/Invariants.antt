use Rattle.hall.specs.Looking.{HasLooked}
use Rattle.crew.proofs.worker.work.Given as goal

abbrev pub invariant-loop : goal.invariant-loop
invariant-loop g l = HasLooked l.fn.worker.seat l.worker.seat
