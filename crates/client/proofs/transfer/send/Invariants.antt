use Rattle.std.proofs.Common.{◌≡◌, ◌-◌, length}
use Rattle.client.specs.Lent.{lent_inner, lent_failed, lent_name}
use Rattle.client.proofs.TransferLemmas.{IsSent}
use Rattle.client.proofs.transfer.send.Given as goal

abbrev pub invariant-loop-taken : goal.invariant-loop-taken
invariant-loop-taken g l = record {
  sent : IsSent (g.W.Write.contents (lent_inner l.initial.writer)) (g.W.Write.contents (lent_inner l.writer)) l.text l.taken;
  same : lent_name l.writer ≡ lent_name l.initial.writer;
  kept : lent_failed l.writer ≡ lent_failed l.initial.writer;
}

abbrev pub decreases-loop-taken : goal.decreases-loop-taken
decreases-loop-taken g l = length l.text - l.taken
