use Rattle.std.proofs.Common.{◌≡◌, length, List, ℕ}
use Rattle.std.specs.Io.KnownBytes.{Consumes}
use Rattle.web_call.specs.Past.{Carries, with_received}
use Rattle.web_call.specs.Stages.{is_answered, owed}
use Rattle.web_call.specs.Tap.{tap_inner, tap_failed, tap_idle}
use Rattle.web_call.proofs.exchanging.receive.Given as goal

abbrev pub invariant-loop-alloc : goal.invariant-loop-alloc
invariant-loop-alloc g l = record {
  received : (bytes : List ℕ) × Consumes (g.R.Read.remaining (tap_inner l.initial.reader)) (g.R.Read.remaining (tap_inner l.reader)) bytes
      × Carries l.initial.call l.call (with_received bytes);
  kept : tap_failed l.reader ≡ tap_failed l.initial.reader;
  idle : tap_idle l.reader ≡ tap_idle l.initial.reader;
  unanswered : is_answered l.call ≡ is_answered l.initial.call;
  len : length l.buffer ≡ 512;
}

abbrev pub decreases-loop-alloc : goal.decreases-loop-alloc
decreases-loop-alloc g l = owed l.call
