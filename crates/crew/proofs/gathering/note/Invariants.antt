use Rattle.std.proofs.Common.{length, take}
use Rattle.crew.specs.Noting.{AreNoted}
use Rattle.crew.proofs.gathering.note.Given as goal

abbrev pub invariant-loop-number : goal.invariant-loop-number
invariant-loop-number l = AreNoted (length l.fn.places) (take l.number-index l.found) l.places
