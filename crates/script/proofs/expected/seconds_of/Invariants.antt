use Rattle.std.proofs.Common.{◌≡◌, length}
use Rattle.script.specs.Expected.{seconds_of}
use Rattle.script.proofs.expected.seconds_of.Given as goal

abbrev pub invariant-expectations : goal.invariant-expectations
invariant-expectations l = seconds_of l.fn.name l.fn.lines l.rest l.seconds ≡ seconds_of l.fn.name l.fn.lines l.fn.expectations 0

abbrev pub decreases-expectations : goal.decreases-expectations
decreases-expectations l = length l.rest
