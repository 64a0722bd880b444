use Rattle.std.proofs.Common.{length, ◌-◌, ◌≤◌}
use Rattle.desk_core.specs.Slots.{HasSame}
use Rattle.desk_core.proofs.slots.Slots.reserve.Given as goal

abbrev pub invariant-loop-self : goal.invariant-loop-self
invariant-loop-self g l =
    HasSame l.fn.self.places.items l.self.places.items × (length l.fn.self.places.items ≤ length l.self.places.items)

abbrev pub decreases-loop-self : goal.decreases-loop-self
decreases-loop-self g l = 16 - length l.self.places.items
