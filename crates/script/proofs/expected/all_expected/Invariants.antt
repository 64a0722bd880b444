use Rattle.std.proofs.Common.{◌≡◌}
use Rattle.script.specs.Expected.{expected_first}
use Rattle.script.proofs.expected.all_expected.Given as goal

abbrev pub invariant-loop-number : goal.invariant-loop-number
invariant-loop-number l = l.expected.items ≡ expected_first l.fn.catalogue l.fn.lines l.fn.expectations l.number
