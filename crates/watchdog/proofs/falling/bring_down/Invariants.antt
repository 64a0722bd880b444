use Rattle.std.proofs.Common.{◌≡◌, false}
use Rattle.hall.specs.Seats.{IsOf}
use Rattle.watchdog.specs.Falling.{HaveFailed}
use Rattle.watchdog.proofs.falling.bring_down.Given as goal

abbrev pub invariant-loop : goal.invariant-loop
invariant-loop g l =
    (goal.iterator-loop g).can_next l.iterator' × (goal.iterator-loop g).is_finite l.iterator'
    × IsOf l.fn.hall l.seat × HaveFailed g.K.Keep.kept l.fn.slot l.fn.from l.fn.seat l.seat l.fall.made × (l.fall.is_refused ≡ false)
