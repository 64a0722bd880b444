use Rattle.std.proofs.Common.{rules}
use Rattle.client.proofs.TransferLemmas.{Appends-more}
use Rattle.client.proofs.transfer.send.Goals as goal

pub loop-taken-preserved : goal.loop-taken-preserved
loop-taken-preserved g c = record {
  sent = record {
    within = search rules;
    written = Appends-more _ _ _ _ _ _ c.loop-taken.invariant.sent.written c.in-Ok.ensures.bytes;
  };
  same = search rules;
  kept = search rules;
}
