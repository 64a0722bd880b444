use Rattle.std.proofs.Common.{take}
use Rattle.hall.specs.Seats.{IsOf}
use Rattle.server.proofs.AgainLemmas.{AreMade}
use Rattle.server.proofs.again.make_all_again.Given as goal

abbrev pub invariant-loop-number : goal.invariant-loop-number
invariant-loop-number g l = record {
  made : AreMade l.fn.seat l.seat (take l.number l.fn.entries) l.results.items;
  ours : IsOf l.fn.hall l.seat;
}
