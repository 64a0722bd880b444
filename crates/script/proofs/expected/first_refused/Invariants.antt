use Rattle.std.proofs.Common.{◌≡◌, length}
use Rattle.script.specs.Expected.{first_refused}
use Rattle.script.proofs.expected.first_refused.Given as goal

abbrev pub invariant-expectations : goal.invariant-expectations
invariant-expectations l = first_refused l.fn.catalogue l.fn.lines l.rest ≡ first_refused l.fn.catalogue l.fn.lines l.fn.expectations

abbrev pub decreases-expectations : goal.decreases-expectations
decreases-expectations l = length l.rest
