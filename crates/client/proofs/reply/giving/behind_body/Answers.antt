use Rattle.std.proofs.Common.{◌++◌, sym, ◌∙◌, inl}
use Rattle.std.proofs.lemmas.Result.{IfOk-weaker}
use Rattle.client.specs.declared.ask_fault.AskFault.TheVariants.{BadResponse}
use Rattle.client.proofs.GivingLemmas.{around_on, body_bad, content_on}
use Rattle.client.proofs.ReplyLemmas.{on_err}
use Rattle.client.proofs.reply.giving.behind_body.Goals as goal

pub returns-in-Err-clause-bad : goal.returns-in-Err-clause-bad
returns-in-Err-clause-bad c = λ is bytes going.
    let body = c.args.reading.body in
    body_bad c.args.call.method c.args.call.most bytes c.args.piece.now body.next body.more c.args.reading.heard.statuses.items c.args.reading.heard.splitter going
    (c.in-Err.ensures.bad going.reply.framing going.reply.body going.reply.content going.reply.stands)

pub returns-then-is_content-clause-ok : goal.returns-then-is_content-clause-ok
returns-then-is_content-clause-ok c =
    let body = c.args.reading.body in
    let heard = c.args.reading.heard in
    IfOk-weaker c.with_content.result _ _ (λ stage told bytes head going. told (bytes ++ c.args.piece.now) head going.none
    (content_on c.args.call.method c.args.call.most bytes c.args.piece.now body.next c.in-Ok.body.next body.more c.in-Ok.body.more heard.statuses.items heard.splitter
    (sym c.is_content-is_content.ensures ∙ c.if-is_content.true) c.requires.some c.requires.body body.within c.in-Ok.ensures.goes going)) c.with_content.ensures.ok

pub returns-then-is_content-clause-grows : goal.returns-then-is_content-clause-grows
returns-then-is_content-clause-grows c =
    let body = c.args.reading.body in
    let heard = c.args.reading.heard in
    IfOk-weaker c.with_content.result _ _ (λ stage told bytes going. told (bytes ++ c.args.piece.now) going.none
    (content_on c.args.call.method c.args.call.most bytes c.args.piece.now body.next c.in-Ok.body.next body.more c.in-Ok.body.more heard.statuses.items heard.splitter
    (sym c.is_content-is_content.ensures ∙ c.if-is_content.true) c.requires.some c.requires.body body.within c.in-Ok.ensures.goes going)) c.with_content.ensures.grows

pub returns-then-is_content-clause-bad : goal.returns-then-is_content-clause-bad
returns-then-is_content-clause-bad c = λ is bytes going.
    let body = c.args.reading.body in
    let heard = c.args.reading.heard in
    c.with_content.ensures.bad is (bytes ++ c.args.piece.now) going.none
    (content_on c.args.call.method c.args.call.most bytes c.args.piece.now body.next c.in-Ok.body.next body.more c.in-Ok.body.more heard.statuses.items heard.splitter
    (sym c.is_content-is_content.ensures ∙ c.if-is_content.true) c.requires.some c.requires.body body.within c.in-Ok.ensures.goes going)

pub returns-else-is_content-clause-ok : goal.returns-else-is_content-clause-ok
returns-else-is_content-clause-ok c =
    let body = c.args.reading.body in
    let heard = c.args.reading.heard in
    IfOk-weaker c.settled.result _ _ (λ stage told bytes head going. told (bytes ++ c.args.piece.now) head
    (around_on c.args.call.method c.args.call.most bytes c.args.piece.now body.next c.in-Ok.body.next body.more c.in-Ok.body.more heard.statuses.items heard.splitter
    (sym c.is_content-is_content.ensures ∙ c.if-is_content.false) c.in-Ok.ensures.goes going)) c.settled.ensures.ok

pub returns-else-is_content-clause-grows : goal.returns-else-is_content-clause-grows
returns-else-is_content-clause-grows c = IfOk-weaker c.settled.result _ _ (λ stage same bytes going. inl same) c.settled.ensures.same

pub returns-else-is_content-clause-bad : goal.returns-else-is_content-clause-bad
returns-else-is_content-clause-bad c = λ is bytes going.
    let body = c.args.reading.body in
    let heard = c.args.reading.heard in
    on_err c.settled.result BadResponse is c.settled.ensures.bad (bytes ++ c.args.piece.now)
    (around_on c.args.call.method c.args.call.most bytes c.args.piece.now body.next c.in-Ok.body.next body.more c.in-Ok.body.more heard.statuses.items heard.splitter
    (sym c.is_content-is_content.ensures ∙ c.if-is_content.false) c.in-Ok.ensures.goes going)
