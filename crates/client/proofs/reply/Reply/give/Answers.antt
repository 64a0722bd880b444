use Rattle.std.proofs.Common.{◌≡◌, ◌<◌, ◌≤◌, List, ℕ, [], ◌∷◌, ◌++◌, Err, length, get_or, refl, sym, ap, ◌∙◌, subst, inl}
use Rattle.std.proofs.lemmas.Result.{IfErr-at_err, IfOk-weaker}
use Rattle.web_call.specs.InputHead.{IsOpenHead}
use Rattle.client.specs.declared.ask_fault.AskFault.{AskFault}
use Rattle.client.specs.declared.reply.ReplyStage.{ReplyStage}
use Rattle.client.specs.Reply.{IsBad, IsRefused}
use Rattle.client.specs.Growth.{Grows}
use Rattle.client.specs.ResponseBody.{is_content, wanted_by}
use Rattle.client.specs.Stages.{Holds, StandsAt, owed_at, owed_of, statuses_at, statuses_of, wanted_at}
use Rattle.client.proofs.GivingLemmas.{one_byte, within_body, within_frame}
use Rattle.client.proofs.reply.Reply.give.Goals as goal

pub returns-in-Head-clause-bad : goal.returns-in-Head-clause-bad
returns-in-Head-clause-bad c = λ is bytes holds.
    let at = subst (λ (stage : ReplyStage). StandsAt c.args.self.call.method c.args.self.call.most bytes c.args.self.head.items stage) c.in-Head.is holds in
    let one : length c.args.piece.now ≤ 1 = subst (λ (stage : ReplyStage). length c.args.piece.now ≤ wanted_at stage) c.in-Head.is c.requires.within in
    let read = ap (λ (all : List ℕ). all ++ get_or c.args.piece.now 0 0 ∷ []) (sym at.0) ∙ ap (λ (all : List ℕ). bytes ++ all) (one_byte c.args.piece.now c.requires.some one) in
    subst (λ (all : List ℕ). IsBad c.args.self.call.method c.args.self.call.most all) read (c.head_after.ensures.bad is (subst IsOpenHead at.0 at.1))

pub returns-in-Head-clause-http : goal.returns-in-Head-clause-http
returns-in-Head-clause-http c = λ status is bytes holds.
    let at = subst (λ (stage : ReplyStage). StandsAt c.args.self.call.method c.args.self.call.most bytes c.args.self.head.items stage) c.in-Head.is holds in
    let one : length c.args.piece.now ≤ 1 = subst (λ (stage : ReplyStage). length c.args.piece.now ≤ wanted_at stage) c.in-Head.is c.requires.within in
    let read = ap (λ (all : List ℕ). all ++ get_or c.args.piece.now 0 0 ∷ []) (sym at.0) ∙ ap (λ (all : List ℕ). bytes ++ all) (one_byte c.args.piece.now c.requires.some one) in
    subst (λ (all : List ℕ). IsRefused all status) read (c.head_after.ensures.http status is (subst IsOpenHead at.0 at.1))

pub returns-in-Err-clause-bad : goal.returns-in-Err-clause-bad
returns-in-Err-clause-bad c = λ is bytes holds.
    c.in-Err.ensures.bad (ap Err (IfErr-at_err (λ (fault : AskFault). c.in-Err.fault ≡ fault) is refl)) bytes
    (subst (λ (stage : ReplyStage). StandsAt c.args.self.call.method c.args.self.call.most bytes c.args.self.head.items stage) c.in-Body.is holds)

pub returns-in-Head-clause-grows : goal.returns-in-Head-clause-grows
returns-in-Head-clause-grows c =
    let none : statuses_of c.args.self ≡ [] = ap statuses_at c.in-Head.is in
    IfOk-weaker c.head_after.result _ _ (λ reply same bytes holds. inl (same ∙ sym none)) c.head_after.ensures.none

pub returns-in-Ok-clause-grows : goal.returns-in-Ok-clause-grows
returns-in-Ok-clause-grows c = λ bytes holds.
    subst (λ (before : List ℕ). Grows c.args.self.call.method (bytes ++ c.args.piece.now) before (statuses_at c.in-Ok.stage)) (sym (ap statuses_at c.in-Body.is))
    (c.in-Ok.ensures.grows bytes
    (subst (λ (stage : ReplyStage). StandsAt c.args.self.call.method c.args.self.call.most bytes c.args.self.head.items stage) c.in-Body.is holds))

pub returns-in-Err-clause-http : goal.returns-in-Err-clause-http
returns-in-Err-clause-http c = λ status is bytes holds.
    absurd (c.in-Err.ensures.refused status (ap Err (IfErr-at_err (λ (fault : AskFault). c.in-Err.fault ≡ fault) is refl)))

pub returns-in-Err-clause-faults : goal.returns-in-Err-clause-faults
returns-in-Err-clause-faults c = c.in-Err.ensures.faults

pub behind_body-requires-clause-body : goal.behind_body-requires-clause-body
behind_body-requires-clause-body c =
    let next = c.in-Body.reading.body.next in
    within_body (is_content next) (length c.args.piece.now) (wanted_by next) _ (subst (λ (stage : ReplyStage). length c.args.piece.now ≤ wanted_at stage) c.in-Body.is c.requires.within)

pub behind_body-requires-clause-frame : goal.behind_body-requires-clause-frame
behind_body-requires-clause-frame c = λ is.
    let next = c.in-Body.reading.body.next in
    within_frame (is_content next) (length c.args.piece.now) (wanted_by next) _ is (subst (λ (stage : ReplyStage). length c.args.piece.now ≤ wanted_at stage) c.in-Body.is c.requires.within)

pub returns-in-Head-clause-ok : goal.returns-in-Head-clause-ok
returns-in-Head-clause-ok c =
    IfOk-weaker c.head_after.result _ _ (λ reply told bytes holds.
    let at = subst (λ (stage : ReplyStage). StandsAt c.args.self.call.method c.args.self.call.most bytes c.args.self.head.items stage) c.in-Head.is holds in
    let one : length c.args.piece.now ≤ 1 = subst (λ (stage : ReplyStage). length c.args.piece.now ≤ wanted_at stage) c.in-Head.is c.requires.within in
    let read = ap (λ (all : List ℕ). all ++ get_or c.args.piece.now 0 0 ∷ []) (sym at.0) ∙ ap (λ (all : List ℕ). bytes ++ all) (one_byte c.args.piece.now c.requires.some one) in
    subst (λ (all : List ℕ). Holds all reply) read (told (subst IsOpenHead at.0 at.1))) c.head_after.ensures.ok

pub returns-in-Head-clause-fewer : goal.returns-in-Head-clause-fewer
returns-in-Head-clause-fewer c =
    IfOk-weaker c.head_after.result _ _ (λ reply less. subst (λ (stage : ReplyStage). owed_of reply < owed_at (length c.args.self.head.items) stage) (sym c.in-Head.is) less) c.head_after.ensures.fewer

pub returns-in-Ok-clause-ok : goal.returns-in-Ok-clause-ok
returns-in-Ok-clause-ok c = λ bytes holds.
    c.in-Ok.ensures.ok bytes c.args.self.head.items
    (subst (λ (stage : ReplyStage). StandsAt c.args.self.call.method c.args.self.call.most bytes c.args.self.head.items stage) c.in-Body.is holds)

pub returns-in-Ok-clause-fewer : goal.returns-in-Ok-clause-fewer
returns-in-Ok-clause-fewer c =
    subst (λ (stage : ReplyStage). owed_at (length c.args.self.head.items) c.in-Ok.stage < owed_at (length c.args.self.head.items) stage) (sym c.in-Body.is) (c.in-Ok.ensures.fewer (length c.args.self.head.items))
