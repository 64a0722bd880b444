use Rattle.std.proofs.Common.{◌≡◌, ℕ, vec_len}
use Rattle.std.specs.Prelude.{Option}
use Rattle.hall.specs.Seats.{SeatState}
use Rattle.watchdog.specs.Found.{IsFound}
use Rattle.watchdog.specs.Watching.{HaveStepped}
use Rattle.watchdog.proofs.steps.go_on_all.Given as goal

abbrev pub invariant-loop-index : goal.invariant-loop-index
invariant-loop-index l =
    (vec_len l.guards ≡ vec_len l.fn.guards)
    × ((kept : Option ℕ) (seat : SeatState) → seat.number ≡ l.fn.number → IsFound kept l.fn.entries seat l.fn.found
    → HaveStepped kept l.fn.now l.fn.guards.items seat l.guards.items seat)
