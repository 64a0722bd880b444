use Rattle.std.proofs.Common.{◌≡◌, ◌<◌, [], ◌++◌, length, map}
use Rattle.std.specs.List.{All}
use Rattle.hall.specs.declared.view.GateStage.TheVariants.{Idle}
use Rattle.hall.specs.Seats.{SeatState, held_of}
use Rattle.hall.proofs.closed.gather.Given as goal

abbrev pub invariant-loop-seat : goal.invariant-loop-seat
invariant-loop-seat g l =
    (goal.iterator-loop-seat g).can_next l.seat-iterator
    × (goal.iterator-loop-seat g).is_finite l.seat-iterator
    × (l.place.table_id ≡ l.shared.table_id)
    × (l.place.me.0.stage ≡ Idle)
    × (l.place.me.1 ≡ [])
    × (0 < length l.place.me.0.seats)
    × All (λ (seat : SeatState). seat.table ≡ l.shared.table_id) l.seat-iterator.rest.items
    × (l.place.me.0.seats ++ map held_of l.seat-iterator.rest.items ≡ map held_of l.fn.seats.items)
