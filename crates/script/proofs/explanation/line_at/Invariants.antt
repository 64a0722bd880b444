use Rattle.std.proofs.Common.{◌≡◌, length}
use Rattle.script.specs.Explanation.{line_at}
use Rattle.script.proofs.explanation.line_at.Given as goal

abbrev pub invariant-loop-at : goal.invariant-loop-at
invariant-loop-at l = line_at l.fn.number l.rest.lines ≡ line_at l.fn.number l.fn.lines.lines

abbrev pub decreases-loop-at : goal.decreases-loop-at
decreases-loop-at l = length l.rest.lines
