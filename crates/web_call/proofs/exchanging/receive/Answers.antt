use Rattle.std.proofs.Common.{subst, ◌∙◌, ◌≡◌, ◌||◌, ◌++◌, Bool, true, false, refl, inl, inr, append-nil, [], take, drop, rules}
use Rattle.std.proofs.KnownBytes.{Consumes-trans, Consumes-kept}
use Rattle.std.specs.Io.KnownBytes.{Consumes}
use Rattle.web_call.specs.Past.{Carries, with_received}
use Rattle.web_call.specs.Tap.{tap_idle, tap_inner}
use Rattle.web_call.proofs.ExchangeLemmas.{given_all, received_more, still_idle}
use Rattle.web_call.proofs.exchanging.receive.Goals as goal

pub loop-alloc-preserved : goal.loop-alloc-preserved
loop-alloc-preserved g c =
    let before = c.loop-alloc.invariant.received in
    let bytes = take c.in-Ok.count c.read.new.buf in
    let same = given_all c.read.new.buf (drop c.min-room.result c.loop-alloc.buffer) c.in-Ok.count c.wanted-in-loop-alloc.result c.give.result (search rules) (search rules) (search rules) in
    let given = subst (λ l. Carries c.loop-alloc.call c.give.new.self (with_received l)) same c.give.ensures.carries in record {
      received = (
        before.0 ++ bytes,
        Consumes-trans _ _ _ before.0 bytes before.1 c.in-Ok.ensures.bytes.0,
        received_more c.args.call.now c.loop-alloc.call c.give.new.self before.0 bytes before.2 given,
      );
      kept = search rules;
      idle = c.read.ensures.idle ∙ still_idle (tap_idle c.loop-alloc.reader) _ (search rules) ∙ c.loop-alloc.invariant.idle;
      unanswered = search rules;
      len = search rules;
    }

pub returns-in_default-clause-received : goal.returns-in_default-clause-received
returns-in_default-clause-received g c =
    let before = c.loop-alloc.invariant.received in
    (before.0, Consumes-kept _ _ _ before.0 before.1 c.in_default.ensures.bytes, before.2)

or_true : (failed : Bool) → (failed || true) ≡ true
or_true true = refl
or_true false = refl

pub returns-in_default-clause-cause : goal.returns-in_default-clause-cause
returns-in_default-clause-cause g c = inl (c.in_default.ensures.failed ∙ or_true _)

pub returns-then-count-eq0-clause-received : goal.returns-then-count-eq0-clause-received
returns-then-count-eq0-clause-received g c =
    let before = c.loop-alloc.invariant.received in
    let none = subst (λ n. Consumes (g.R.Read.remaining (tap_inner c.loop-alloc.reader)) (g.R.Read.remaining (tap_inner c.read.new.self)) (take n c.read.new.buf))
    c.if-count-eq0.true c.in-Ok.ensures.bytes.0 in (
      before.0,
      subst (λ l. Consumes (g.R.Read.remaining (tap_inner c.args.reader.now)) (g.R.Read.remaining (tap_inner c.read.new.self)) l) (append-nil before.0)
          (Consumes-trans _ _ _ before.0 [] before.1 none),
      before.2,
    )

pub returns-then-count-eq0-clause-cause : goal.returns-then-count-eq0-clause-cause
returns-then-count-eq0-clause-cause g c = inr (c.in-Ok.ensures.bytes.1 c.if-count-eq0.true (search rules))
