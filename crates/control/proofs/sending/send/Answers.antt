use Rattle.control.proofs.SendingLemmas.{Appends-more, failed_front, front_of, sent_whole, within_more}
use Rattle.control.proofs.sending.send.Goals as goal

pub loop-taken-preserved : goal.loop-taken-preserved
loop-taken-preserved g c = record {
  within = within_more _ _ _ c.loop-taken.invariant.within c.in_ok-count.ensures.bound;
  written = Appends-more _ _ _ _ _ _ c.loop-taken.invariant.written c.in_ok-count.ensures.bytes;
}

pub returns-in_err-count-clause-err : goal.returns-in_err-count-clause-err
returns-in_err-count-clause-err g c = failed_front _ _ _ _ _ _ c.loop-taken.invariant.written c.in_err-count.ensures.bytes

pub returns-then-count-eq0-clause-err : goal.returns-then-count-eq0-clause-err
returns-then-count-eq0-clause-err g c = front_of _ _ _ _ (Appends-more _ _ _ _ _ _ c.loop-taken.invariant.written c.in_ok-count.ensures.bytes)

pub returns-clause-ok : goal.returns-clause-ok
returns-clause-ok g c = sent_whole _ _ _ _ _ _ c.loop-taken.invariant.written c.flush.ensures.bytes c.loop-taken-test.false

pub returns-clause-err : goal.returns-clause-err
returns-clause-err g c = failed_front _ _ _ _ _ _ c.loop-taken.invariant.written c.flush.ensures.bytes
