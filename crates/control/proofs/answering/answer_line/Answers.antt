use Rattle.std.proofs.Common.{inr, subst, sym, true≢false, ◌∙◌}
use Rattle.control.specs.WebLine.{IsForeign}
use Rattle.control.proofs.answering.answer_line.Goals as goal

pub returns-clause-met : goal.returns-clause-met
returns-clause-met g c = inr (
  λ is. true≢false (sym (c.is_foreign.ensures.1 (subst (λ terms. IsForeign terms c.args.line.now) (sym c.terms.ensures) is)) ∙ c.if-is_foreign.false),
  c.meet_text.ensures.met,
)
