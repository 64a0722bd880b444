use Rattle.std.proofs.Common.{◌-◌, length}
use Rattle.control.proofs.SendingLemmas.{IsSent}
use Rattle.control.proofs.sending.send.Given as goal

abbrev pub invariant-loop-taken : goal.invariant-loop-taken
invariant-loop-taken g l = IsSent (g.W.Write.contents l.initial.writer) (g.W.Write.contents l.writer) l.text l.taken

abbrev pub decreases-loop-taken : goal.decreases-loop-taken
decreases-loop-taken g l = length l.text - l.taken
