use Rattle.std.proofs.Common.{length}
use Rattle.script.proofs.ScriptLemmas.{Ordering}
use Rattle.script.proofs.reading.read_orders.Given as goal

abbrev pub invariant-loop-number : goal.invariant-loop-number
invariant-loop-number l = Ordering l.fn.lines.lines l.orders.items l.lines.lines

abbrev pub decreases-loop-number : goal.decreases-loop-number
decreases-loop-number l = length l.lines.lines
