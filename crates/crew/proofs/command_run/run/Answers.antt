use Rattle.std.proofs.Common.{refl, arith, sym, ◌∙◌}
use Rattle.hall.proofs.CarryingOut.{met_ours}
use Rattle.crew.proofs.Orders.{order_more, run_begins, run_done}
use Rattle.crew.proofs.command_run.run.Goals as goal

pub loop-order-init : goal.loop-order-init
loop-order-init g c = (c.requires.seat, omega (arith, c.deref-order-items.ensures.len, c.requires.commands.room), run_begins _ _ _ c.requires.commands.none)

pub loop-order-preserved : goal.loop-order-preserved
loop-order-preserved g c = (
  met_ours _ _ _ _ _ c.loop-order.invariant.0 c.carry_out-result.ensures,
  omega (arith, c.loop-order.invariant.1, c.push.ensures.capacity),
  order_more _ _ _ _ _ _ _ _ _ _ c.loop-order.invariant.2 (omega (arith, c.loop-order-test.true)) c.order-item.is c.carry_out-result.ensures (c.push.ensures.items ∙ rw c.unwrap.ensures refl),
)

pub returns : goal.returns
returns g c =
    rw (sym c.deref-order-items.ensures.value) (run_done _ _ _ _ _ _ c.loop-order.invariant.2 (omega (arith, c.loop-order-test.false)))
