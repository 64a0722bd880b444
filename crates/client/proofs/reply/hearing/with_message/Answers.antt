use Rattle.std.proofs.Common.{◌≡◌, length, arith, sym, ◌∙◌, ap, subst, inr}
use Rattle.std.proofs.lemmas.Result.{IfOk-weaker}
use Rattle.client.specs.declared.ask_fault.AskFault.TheVariants.{BadResponse}
use Rattle.client.specs.Reply.{IsGoingOn, is_enough}
use Rattle.client.proofs.ReplyLemmas.{message_bad, message_grows, message_told, message_on, on_err}
use Rattle.client.proofs.reply.hearing.with_message.Goals as goal

pub returns-in-Err-clause-bad : goal.returns-in-Err-clause-bad
returns-in-Err-clause-bad c = λ is bytes empty fits ending.
    message_bad c.args.call.method c.args.call.most bytes c.args.body.next c.args.body.more c.args.heard.statuses.items c.args.message.now
    c.in-Err.field-0 c.in-Err.ensures.err fits ending

pub returns-then-is_enough-clause-ok : goal.returns-then-is_enough-clause-ok
returns-then-is_enough-clause-ok c = λ bytes head empty fits ending.
    let len : c.len.result ≡ length c.push.new.self.items = omega (arith, c.push.new.self.ok.0) in
    message_told c.args.call.method c.args.call.most bytes c.args.body.next c.args.body.more c.args.heard.statuses.items c.args.message.now
    c.push.new.self.items c.in-Ok.status fits c.in-Ok.ensures.ok c.in_ok-push.ensures.items
    (ap (is_enough c.args.call.method c.args.call.most) (sym len) ∙ sym c.is_enough.ensures ∙ c.if-is_enough.true) ending

pub returns-clause-ok : goal.returns-clause-ok
returns-clause-ok c =
    let len : c.len.result ≡ length c.push.new.self.items = omega (arith, c.push.new.self.ok.0) in
    IfOk-weaker c.settled.result _ _ (λ stage told bytes head empty fits ending. told bytes head
    (subst (IsGoingOn c.args.call.method c.args.call.most bytes c.args.body.next c.args.body.more c.push.new.self.items) (sym empty)
    (message_on c.args.call.method c.args.call.most bytes c.args.body.next c.args.body.more c.args.heard.statuses.items c.args.message.now
    c.push.new.self.items c.in-Ok.status fits c.in-Ok.ensures.ok c.in_ok-push.ensures.items
    (ap (is_enough c.args.call.method c.args.call.most) (sym len) ∙ sym c.is_enough.ensures ∙ c.if-is_enough.false) ending))) c.settled.ensures.ok

pub returns-clause-bad : goal.returns-clause-bad
returns-clause-bad c = λ is bytes empty fits ending.
    let len : c.len.result ≡ length c.push.new.self.items = omega (arith, c.push.new.self.ok.0) in
    on_err c.settled.result BadResponse is c.settled.ensures.bad bytes
    (subst (IsGoingOn c.args.call.method c.args.call.most bytes c.args.body.next c.args.body.more c.push.new.self.items) (sym empty)
    (message_on c.args.call.method c.args.call.most bytes c.args.body.next c.args.body.more c.args.heard.statuses.items c.args.message.now
    c.push.new.self.items c.in-Ok.status fits c.in-Ok.ensures.ok c.in_ok-push.ensures.items
    (ap (is_enough c.args.call.method c.args.call.most) (sym len) ∙ sym c.is_enough.ensures ∙ c.if-is_enough.false) ending))

pub returns-then-is_enough-clause-grows : goal.returns-then-is_enough-clause-grows
returns-then-is_enough-clause-grows c = λ bytes fits ending.
    inr (message_grows c.args.call.method bytes c.args.body.next c.args.body.more c.args.heard.statuses.items c.args.message.now
    c.push.new.self.items c.in-Ok.status fits c.in-Ok.ensures.ok c.in_ok-push.ensures.items ending.ends)

pub returns-clause-grows : goal.returns-clause-grows
returns-clause-grows c =
    IfOk-weaker c.settled.result _ _ (λ stage same bytes fits ending.
    inr (message_grows c.args.call.method bytes c.args.body.next c.args.body.more c.args.heard.statuses.items c.args.message.now
    _ c.in-Ok.status fits c.in-Ok.ensures.ok (same ∙ c.in_ok-push.ensures.items) ending.ends)) c.settled.ensures.same
