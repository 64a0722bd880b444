use Rattle.hall.specs.Looking.{HasLooked}
use Rattle.hall.specs.Seats.{IsOf}
use Rattle.diary.proofs.diary.Diary.end.Given as goal

abbrev pub invariant-loop : goal.invariant-loop
invariant-loop g l = HasLooked l.fn.seat l.seat × IsOf l.fn.hall l.seat
