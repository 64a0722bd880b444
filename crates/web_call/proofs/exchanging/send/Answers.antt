use Rattle.std.proofs.Common.{refl, subst, ◌∙◌, [], ◌++◌, take, rules}
use Rattle.std.proofs.KnownBytes.{Appends-trans, Appends-nil}
use Rattle.std.specs.Io.KnownBytes.{Appends}
use Rattle.web_call.specs.Stages.{to_send}
use Rattle.web_call.specs.Tap.{tap_inner}
use Rattle.web_call.proofs.ExchangeLemmas.{sent_more, sent_none}
use Rattle.web_call.proofs.exchanging.send.Goals as goal

pub returns-then-is_empty-clause-sent : goal.returns-then-is_empty-clause-sent
returns-then-is_empty-clause-sent g c = ([], Appends-nil _, sent_none c.args.call.now)

pub loop-writer-init : goal.loop-writer-init
loop-writer-init g c = record { sent = ([], Appends-nil _, sent_none c.args.call.now); kept = refl; idle = refl; watching = refl; ending = refl; answered = refl; text = refl }

pub loop-writer-preserved : goal.loop-writer-preserved
loop-writer-preserved g c =
    let before = c.loop-writer.invariant.sent in
    let bytes = take c.in-Ok.count (to_send c.loop-writer.call) in
    let wrote = subst (λ l. Appends (g.W.Write.contents (tap_inner c.loop-writer.writer)) (g.W.Write.contents (tap_inner c.write.new.self))
    (take c.in-Ok.count l)) c.to_send-in-loop-writer-2.ensures c.in-Ok.ensures.bytes in record {
      sent = (before.0 ++ bytes, Appends-trans _ _ _ before.0 bytes before.1 wrote, sent_more c.args.call.now c.loop-writer.call c.sent.new.self before.0 bytes before.2 c.sent.ensures.carries);
      kept = search rules;
      idle = search rules;
      watching = c.sent.ensures.watching ∙ c.loop-writer.invariant.watching;
      ending = c.sent.ensures.ending ∙ c.loop-writer.invariant.ending;
      answered = c.sent.ensures.answered ∙ c.loop-writer.invariant.answered;
      text = c.sent.ensures.text ∙ c.loop-writer.invariant.text;
    }
