use Rattle.std.proofs.Common.{◌≡◌}
use Rattle.desk_core.specs.Board.{status_in}
use Rattle.desk_core.specs.Reason.{first_down}
use Rattle.desk_core.proofs.status.first_down.Given as goal

abbrev pub invariant-loop-number : goal.invariant-loop-number
invariant-loop-number l = l.first ≡ first_down (status_in l.statuses) l.mask l.number
