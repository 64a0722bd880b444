use Rattle.hall.specs.Seats.{IsOf}
use Rattle.library_tests.proofs.halls.guests.first_wrong.Given as goal

abbrev pub invariant-loop-index : goal.invariant-loop-index
invariant-loop-index g l = IsOf l.hall l.guest.seat
