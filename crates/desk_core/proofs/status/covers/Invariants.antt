use Rattle.std.proofs.Common.{◌≡◌}
use Rattle.desk_core.specs.Board.{status_in}
use Rattle.desk_core.specs.Slots.{covers_below}
use Rattle.desk_core.proofs.status.covers.Given as goal

abbrev pub invariant-loop-number : goal.invariant-loop-number
invariant-loop-number l = l.all ≡ covers_below (status_in l.below) l.number l.mask
