use Rattle.std.proofs.Common.{◌≤◌, sym, subst}
use Rattle.std.specs.Prelude.{vec_capacity}
use Rattle.std.specs.List.{All}
use Rattle.std.proofs.lemmas.List.Elements.{All-push}
use Rattle.crew.specs.CommandRun.{IsEquipped}
use Rattle.crew.proofs.Moved.{moved_as, all_moved_as}
use Rattle.crew.proofs.staff.equip.Goals as goal

pub loop-orders-preserved : goal.loop-orders-preserved
loop-orders-preserved c =
    let pushed = c.in_ok-push.ensures.items in
    let equipped : IsEquipped (record { orders = c.in-Some.orders; results = c.in_ok-results.results }) = record {
      none = c.in_ok-results.ensures.items;
      room = subst (λ n. n ≤ vec_capacity c.in_ok-results.results) c.len-in-loop-orders.ensures c.in_ok-results.ensures.capacity;
    } in (
      moved_as (λ list. list.orders) _ c.loop-orders.equipped.items c.push.new.self.items _ _ _ c.loop-orders.invariant.0 c.in-Some.ensures.steps.0 pushed,
      subst (All IsEquipped) (sym pushed) (All-push IsEquipped c.loop-orders.equipped.items _ c.loop-orders.invariant.1 equipped),
    )

pub returns-clause-orders : goal.returns-clause-orders
returns-clause-orders c = all_moved_as (λ list. list.orders) _ _ c.loop-orders.orders-iterator c.loop-orders.invariant.0 c.in-None.ensures.steps.0
