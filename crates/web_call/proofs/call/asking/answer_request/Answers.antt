use Rattle.std.proofs.Common.{refl, sym, ap, subst, ◌∙◌, ◌∷◌, false, ◌≡◌, arith, rules, [], length}
use Rattle.plain.specs.Answer.{IsInquiryOf}
use Rattle.plain.specs.Inquiry.{asked_of}
use Rattle.web_call.specs.Answer.{IsOfCall}
use Rattle.web_call.specs.Answer.IsStarvedAt.{Head}
use Rattle.web_call.specs.Answer.Sends.{RefusedByHttp, EndedByHead}
use Rattle.web_call.specs.Head.{IsHeaded, is_too_large}
use Rattle.web_call.specs.HeadAnswer.{Refused, Ended, Asked}
use Rattle.web_call.specs.Request.{IsRequested}
use Rattle.web_call.specs.ResponseTexts.{refusal_pieces, status_pieces}
use Rattle.web_call.proofs.CallLemmas.{answers_first, body_is, ends, no_body, plain_alone, requested}
use Rattle.web_call.proofs.WalkLemmas.{AsksDoor-none}
use Rattle.web_call.proofs.call.asking.answer_request.Goals as goal

pub returns-in-Http-clause-asked : goal.returns-in-Http-clause-asked
returns-in-Http-clause-asked g c =
    let of_call = subst (λ head. IsOfCall g.D.Door.is_plain head) c.head-head.ensures (c.plain_of.ensures.call (search rules)) in
    let headed = subst (λ head. IsHeaded head (Refused c.in-Http.http)) c.head-head.ensures c.in-Http.ensures.headed in (
      [],
      omega arith,
      AsksDoor-none,
      λ past outgoing reads.
          let whole = no_body past c.args.intake.now outgoing (Refused c.in-Http.http) c.requires refl reads headed in
          answers_first _ past c.args.intake.now outgoing [] c.last.result reads
          (ends _ past.received c.args.intake.now.head.items [] [] (refusal_pieces c.in-Http.http) _ c.last.result whole.1
          (RefusedByHttp c.in-Http.http of_call headed refl refl) (Head whole.0 refl) (c.last.ensures.told _ c.refusal.ensures)),
    )

pub returns-in-Status-clause-asked : goal.returns-in-Status-clause-asked
returns-in-Status-clause-asked g c =
    let of_call = subst (λ head. IsOfCall g.D.Door.is_plain head) c.head-head.ensures (c.plain_of.ensures.call (search rules)) in
    let headed = subst (λ head. IsHeaded head (Ended c.in-Status.code c.in-Status.text.now)) c.head-head.ensures c.in-Status.ensures.headed in (
      [],
      omega arith,
      AsksDoor-none,
      λ past outgoing reads.
          let whole = no_body past c.args.intake.now outgoing (Ended c.in-Status.code c.in-Status.text.now) c.requires refl reads headed in
          answers_first _ past c.args.intake.now outgoing [] c.last-in-Status.result reads
          (ends _ past.received c.args.intake.now.head.items [] [] (status_pieces c.in-Status.code c.in-Status.text.now) _ c.last-in-Status.result whole.1
          (EndedByHead c.in-Status.code c.in-Status.text.now of_call headed refl refl) (Head whole.0 refl) (c.last-in-Status.ensures.told _ c.status.ensures)),
    )

pub returns-in-Body-clause-asked : goal.returns-in-Body-clause-asked
returns-in-Body-clause-asked g c =
    let of_call = subst (λ head. IsOfCall g.D.Door.is_plain head) c.head-head.ensures (c.plain_of.ensures.call (search rules)) in
    let headed = subst (λ head. IsHeaded head (Asked c.in-Body.method c.in-Body.length)) c.head-head.ensures c.in-Body.ensures.headed in
    let asked = c.answer_body.ensures.asked in (
      asked.0,
      asked.1,
      asked.2,
      λ past outgoing reads.
          let len = body_is past c.args.intake.now outgoing (Asked c.in-Body.method c.in-Body.length) c.requires reads headed in
          answers_first _ past c.args.intake.now outgoing asked.0 c.answer_body.result reads
          (asked.3 c.args.intake.now.head.items past.received of_call
          (subst (λ body. IsRequested c.args.intake.now.head.items body past.received) (sym c.body.ensures) (requested past c.args.intake.now outgoing c.requires reads))
          (subst (λ n. IsHeaded c.args.intake.now.head.items (Asked c.in-Body.method n)) (sym len ∙ ap length (sym c.body.ensures)) headed)),
    )

pub returns-in-Http-clause-stays : goal.returns-in-Http-clause-stays
returns-in-Http-clause-stays g c = g.D.Door.stays_self _

pub returns-in-Status-clause-stays : goal.returns-in-Status-clause-stays
returns-in-Status-clause-stays g c = g.D.Door.stays_self _

pub returns-in-Some-clause-asked : goal.returns-in-Some-clause-asked
returns-in-Some-clause-asked g c =
    let seen = g.D.Door.seen c.answer_plainly.new.door in
    let inquiry = subst (λ head. IsInquiryOf head (asked_of c.in-Some.inquiry)) c.head-head.ensures c.in-Some.ensures.asked in
    let within = subst (λ head. is_too_large head ≡ false) c.head-head.ensures (c.plain_of.ensures.within (search rules)) in (
      seen ∷ [],
      omega arith,
      c.answer_plainly.ensures.asks,
      λ past outgoing reads.
          answers_first _ past c.args.intake.now outgoing (seen ∷ []) c.answer_plainly.result reads
          (c.answer_plainly.ensures.stands c.args.intake.now.head.items past.received inquiry within
          (plain_alone past c.args.intake.now outgoing _ c.requires reads within inquiry)),
    )
