use Rattle.std.proofs.Common.{◌≡◌, ◌++◌, Err, ap, subst, inl}
use Rattle.std.proofs.lemmas.Result.{IfOk-weaker}
use Rattle.client.specs.declared.ask_fault.AskFault.TheVariants.{BadResponse}
use Rattle.client.specs.Stages.{IsEnding}
use Rattle.client.proofs.ReplyLemmas.{front_bad, front_on, on_err}
use Rattle.client.proofs.reply.hearing.with_content.Goals as goal

pub returns-in-Err-clause-bad : goal.returns-in-Err-clause-bad
returns-in-Err-clause-bad c = λ is bytes none ending.
    let same : c.in-Err.fault ≡ BadResponse = cc in
    front_bad c.args.call.method c.args.call.most bytes c.args.body.next c.args.body.more c.args.heard.statuses.items (c.args.heard.splitter ++ c.args.piece.now)
    (c.in-Err.ensures.bad (ap Err same)) ending

pub returns-in-Some-clause-bad : goal.returns-in-Some-clause-bad
returns-in-Some-clause-bad c = λ is bytes none ending.
    let found = (rw c.in-Some.is at c.in-Ok.ensures.frame) none in
    c.with_frame.ensures.bad is bytes found.2 found.1
    (subst (IsEnding c.args.call.method c.args.call.most bytes c.args.body.next c.args.body.more c.args.heard.statuses.items) found.0 ending)

pub returns-in-None-clause-bad : goal.returns-in-None-clause-bad
returns-in-None-clause-bad c = λ is bytes none ending.
    let stays = rw c.in-None.is at c.in-Ok.ensures.none in
    on_err c.settled.result BadResponse is c.settled.ensures.bad bytes
    (front_on c.args.call.method c.args.call.most bytes c.args.body.next c.args.body.more c.args.heard.statuses.items c.next_frame.new.splitter _
    stays.0 stays.1 (rw c.in-None.is at c.in-Ok.ensures.sound) ending)

pub returns-in-Some-clause-grows : goal.returns-in-Some-clause-grows
returns-in-Some-clause-grows c =
    IfOk-weaker c.with_frame.result _ _ (λ stage told bytes none ending.
    let found = (rw c.in-Some.is at c.in-Ok.ensures.frame) none in
    told bytes found.1
    (subst (IsEnding c.args.call.method c.args.call.most bytes c.args.body.next c.args.body.more c.args.heard.statuses.items) found.0 ending)) c.with_frame.ensures.grows

pub returns-in-None-clause-grows : goal.returns-in-None-clause-grows
returns-in-None-clause-grows c = IfOk-weaker c.settled.result _ _ (λ stage same bytes none ending. inl same) c.settled.ensures.same

pub returns-in-Some-clause-ok : goal.returns-in-Some-clause-ok
returns-in-Some-clause-ok c =
    IfOk-weaker c.with_frame.result _ _ (λ stage told bytes head none ending.
    let found = (rw c.in-Some.is at c.in-Ok.ensures.frame) none in
    told bytes head found.2 found.1
    (subst (IsEnding c.args.call.method c.args.call.most bytes c.args.body.next c.args.body.more c.args.heard.statuses.items) found.0 ending)) c.with_frame.ensures.ok
