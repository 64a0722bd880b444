use Rattle.hall.specs.Seats.{IsOf}
use Rattle.watchdog.specs.Watching.{HasWatched}
use Rattle.live_run.specs.Watched.{guards_in}
use Rattle.live_run.proofs.watchdog_loop.WatchdogLoop.rounds.Given as goal

abbrev pub invariant-loop : goal.invariant-loop
invariant-loop g l =
    (goal.iterator-loop g).can_next l.iterator' × (goal.iterator-loop g).is_finite l.iterator'
    × IsOf l.fn.hall l.seat × HasWatched g.K.Keep.kept (guards_in l.fn.self) l.fn.seat (guards_in l.self) l.seat
