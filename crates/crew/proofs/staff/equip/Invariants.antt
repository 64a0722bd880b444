use Rattle.std.proofs.Common.{◌≡◌, ◌++◌, map}
use Rattle.std.specs.List.{All}
use Rattle.crew.specs.CommandRun.{IsEquipped}
use Rattle.crew.proofs.staff.equip.Given as goal

abbrev pub invariant-loop-orders : goal.invariant-loop-orders
invariant-loop-orders l =
    (l.fn.lists.items ≡ map (λ list. list.orders) l.equipped.items ++ l.orders-iterator.rest.items) × All IsEquipped l.equipped.items
