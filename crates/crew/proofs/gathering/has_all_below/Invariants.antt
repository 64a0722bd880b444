use Rattle.std.proofs.Common.{ℕ, ◌<◌, Contains}
use Rattle.crew.specs.Gather.{numbers_of}
use Rattle.crew.proofs.gathering.has_all_below.Given as goal

abbrev pub invariant-loop-number : goal.invariant-loop-number
invariant-loop-number l = (k : ℕ) → k < l.number → Contains (numbers_of l.found) k
