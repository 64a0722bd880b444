use Rattle.std.proofs.Common.{◌≡◌, length, None}
use Rattle.script.specs.Expected.{rule_behind}
use Rattle.script.proofs.expected.rule_behind.Given as goal

abbrev pub invariant-lines : goal.invariant-lines
invariant-lines l = rule_behind l.fn.name l.rest l.rule ≡ rule_behind l.fn.name l.fn.lines None

abbrev pub decreases-lines : goal.decreases-lines
decreases-lines l = length l.rest
