use Rattle.std.proofs.Common.{take}
use Rattle.crew.specs.Gather.{AreSound, numbers_of}
use Rattle.crew.proofs.gathering.first_wrong.Given as goal

abbrev pub invariant-loop-place : goal.invariant-loop-place
invariant-loop-place l = AreSound l.expected (numbers_of (take l.place l.found))
