use Rattle.std.proofs.Common.{◌≡◌, ◌≢◌, ◌≤◌, ◌+◌, ◌-◌, true, false, [], cond}
use Rattle.web_call.specs.Stages.{being_sent, is_answered, is_watching, to_send}
use Rattle.web_call.specs.Tap.{tap_inner, tap_failed, tap_idle}
use Rattle.web_call.proofs.ExchangeLemmas.{SoFar}
use Rattle.web_call.proofs.exchanging.exchange.Given as goal

abbrev pub invariant-loop-is_sent : goal.invariant-loop-is_sent
invariant-loop-is_sent g l = record {
  so_far : SoFar (record { names = g.D.Door.names l.fn.door; kept = g.D.Door.kept; is_plain = g.D.Door.is_plain }) g.D.Door.seen g.D.Door.follows g.B.Bell.given g.B.Bell.is_over l.limits.looks l.fn.door l.door l.fn.bell l.bell
      (g.R.Read.remaining (tap_inner l.fn.reader)) (g.R.Read.remaining (tap_inner l.reader)) (g.W.Write.contents (tap_inner l.fn.writer)) (g.W.Write.contents (tap_inner l.writer))
      l.call l.had;
  answered : is_answered l.call ≡ true;
  told : l.is_sent ≡ true → to_send l.call ≡ [];
  kept : l.is_sent ≡ true → tap_failed l.writer ≡ tap_failed l.fn.writer;
  failed : l.is_sent ≡ false → tap_failed l.writer ≡ true;
  idle : tap_idle l.writer ≡ tap_idle l.fn.writer;
  some : l.is_sent ≡ false → being_sent l.call ≢ [];
  most : l.had ≤ l.limits.looks;
  names : g.D.Door.names l.door ≡ g.D.Door.names l.fn.door;
  stays : g.D.Door.stays l.fn.door l.door;
}

abbrev pub decreases-loop-is_sent : goal.decreases-loop-is_sent
decreases-loop-is_sent g l = l.limits.looks - l.had + cond (is_watching l.call) 1 0
