use Rattle.std.proofs.Common.{◌≡◌, length}
use Rattle.script.specs.TextLines.{left_from}
use Rattle.script.proofs.text_lines.Lines.next.Given as goal

abbrev pub invariant-loop-line : goal.invariant-loop-line
invariant-loop-line l = left_from l.self-inside.mode l.self-inside.number l.self-inside.rest.now ≡ l.fn.self

abbrev pub decreases-loop-line : goal.decreases-loop-line
decreases-loop-line l = length l.self-inside.rest.now
