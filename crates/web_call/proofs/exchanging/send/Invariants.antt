use Rattle.std.proofs.Common.{◌≡◌, length, List, ℕ}
use Rattle.std.specs.Io.KnownBytes.{Appends}
use Rattle.web_call.specs.Past.{Carries, with_sent}
use Rattle.web_call.specs.Stages.{being_sent, ending_of, is_answered, is_watching, to_send}
use Rattle.web_call.specs.Tap.{tap_inner, tap_failed, tap_idle}
use Rattle.web_call.proofs.exchanging.send.Given as goal

abbrev pub invariant-loop-writer : goal.invariant-loop-writer
invariant-loop-writer g l = record {
  sent : (bytes : List ℕ) × Appends (g.W.Write.contents (tap_inner l.initial.writer)) (g.W.Write.contents (tap_inner l.writer)) bytes
      × Carries l.initial.call l.call (with_sent bytes);
  kept : tap_failed l.writer ≡ tap_failed l.initial.writer;
  idle : tap_idle l.writer ≡ tap_idle l.initial.writer;
  watching : is_watching l.call ≡ is_watching l.initial.call;
  ending : ending_of l.call ≡ ending_of l.initial.call;
  answered : is_answered l.call ≡ is_answered l.initial.call;
  text : being_sent l.call ≡ being_sent l.initial.call;
}

abbrev pub decreases-loop-writer : goal.decreases-loop-writer
decreases-loop-writer g l = length (to_send l.call)
