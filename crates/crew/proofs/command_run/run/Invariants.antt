use Rattle.std.proofs.Common.{◌≤◌, map, vec_capacity, length}
use Rattle.desk_core.specs.Order.{ordered}
use Rattle.hall.specs.Seats.{IsOf}
use Rattle.crew.proofs.Orders.{IsUnderWay}
use Rattle.crew.proofs.command_run.run.Given as goal

abbrev pub invariant-loop-order : goal.invariant-loop-order
invariant-loop-order g l =
    IsOf l.hall l.run.1.0 × (length l.order-items ≤ vec_capacity l.run.1.1.0.1.0)
    × IsUnderWay (map (ordered l.hall.names) l.order-items) l.fn.run.seat l.run.1.0 l.order-index l.run.1.1.0.1.0.items
