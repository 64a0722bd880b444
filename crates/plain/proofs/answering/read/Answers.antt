use Rattle.std.proofs.Common.{◌≡◌, ◌∙◌, IfOk, subst}
use Rattle.plain.specs.declared.response.Kind.TheVariants as kinds
use Rattle.plain.specs.Response.{response}
use Rattle.plain.proofs.BoardLemmas.{metrics_whole, services_whole}
use Rattle.plain.proofs.answering.read.Goals as goal

pub returns-in_ok-text-in-Services : goal.returns-in_ok-text-in-Services
returns-in_ok-text-in-Services c = λ seen is.
    rw c.in-Services.is
    (subst (λ body. IfOk c.response.result (λ text. text.items ≡ response c.args.inquiry.now.verb (record { kind = kinds.Json; body = body })))
    (c.as_slice.ensures.value ∙ c.in_ok-text-in-Services.ensures.text ∙ services_whole seen c.args.board c.args.catalogue.now is c.in_ok-text-in-Services.ensures.few)
    c.response.ensures)

pub returns-in_ok-text-in-Metrics : goal.returns-in_ok-text-in-Metrics
returns-in_ok-text-in-Metrics c = λ seen is.
    rw c.in-Metrics.is
    (subst (λ body. IfOk c.response-in-Metrics.result (λ text. text.items ≡ response c.args.inquiry.now.verb (record { kind = kinds.Metrics; body = body })))
    (c.as_slice-in-Metrics.ensures.value ∙ c.in_ok-text-in-Metrics.ensures.text
    ∙ metrics_whole seen c.args.board c.args.catalogue.now c.args.figures.now is c.in_ok-text-in-Metrics.ensures.few)
    c.response-in-Metrics.ensures)

pub returns-in-Page : goal.returns-in-Page
returns-in-Page c = λ seen is.
    rw c.in-Page.is
    (subst (λ body. IfOk c.response-in-Page.result (λ text. text.items ≡ response c.args.inquiry.now.verb (record { kind = kinds.Page; body = body })))
    c.page_bytes.ensures c.response-in-Page.ensures)
