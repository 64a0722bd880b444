use Rattle.std.proofs.Common.{◌≡◌, take, vec_len}
use Rattle.std.specs.List.{All}
use Rattle.hall.specs.Seats.{IsOf}
use Rattle.watchdog.specs.Watching.{HaveStepped, WasLooked}
use Rattle.watchdog.proofs.steps.look_all.Given as goal

abbrev pub invariant-loop-index : goal.invariant-loop-index
invariant-loop-index g l =
    (vec_len l.guards ≡ vec_len l.fn.guards) × IsOf l.fn.hall l.seat × All (WasLooked l.fn.now) (take l.index l.guards.items)
    × HaveStepped g.K.Keep.kept l.fn.now l.fn.guards.items l.fn.seat l.guards.items l.seat
