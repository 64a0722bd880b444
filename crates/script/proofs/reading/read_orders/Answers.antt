use Rattle.script.proofs.ScriptLemmas.{next_order, ends_orders, stuck_orders}
use Rattle.script.proofs.reading.read_orders.Goals as goal

pub loop-number-preserved : goal.loop-number-preserved
loop-number-preserved c =
    next_order _ _ _ _ _ _ _ _ c.loop-number.invariant c.in-Ok.ensures.line (rw c.in-Some.is at c.in_ok-order.ensures) c.in_ok-push-in-Some.ensures.items

pub returns-in-None-clause-fault : goal.returns-in-None-clause-fault
returns-in-None-clause-fault c = λ other. stuck_orders _ _ _ _ _ _ c.loop-number.invariant c.in-Ok.ensures.line (rw c.in-None.is at c.in_ok-order.ensures)

pub returns-clause-ok : goal.returns-clause-ok
returns-clause-ok c = ends_orders _ _ _ c.loop-number.invariant c.in_default.ensures.none.0
