use Rattle.script.proofs.ScriptLemmas.{Reading}
use Rattle.script.proofs.reading.read_lines.Given as goal
use Rattle.std.proofs.Common.{length}

abbrev pub invariant-loop-number : goal.invariant-loop-number
invariant-loop-number l = Reading l.mode l.catalogue l.fn.lines.lines l.watches l.taken.items l.numbers.items l.expectations.items l.lines.lines

abbrev pub decreases-loop-number : goal.decreases-loop-number
decreases-loop-number l = length l.lines.lines
