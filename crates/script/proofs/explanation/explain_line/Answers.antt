use Rattle.std.proofs.Common.{sym, ap, ◌∙◌}
use Rattle.std.specs.Option.{option_map}
use Rattle.script.proofs.ExplanationLemmas.{each_ok, explains_first, explains_other}
use Rattle.script.proofs.explanation.explain_line.Goals as goal

pub returns-then-first-number : goal.returns-then-first-number
returns-then-first-number c =
    each_ok c.told_line.result (λ told is. explains_first _ _ _ _ _ _ _ (sym c.new-lines.ensures ∙ c.in-Ok.ensures.line) c.if-first-number.true c.in_ok-complaint.ensures is) c.told_line.ensures

pub returns-in_ok-complaint-in-Some : goal.returns-in_ok-complaint-in-Some
returns-in_ok-complaint-in-Some c =
    let at = ap (option_map (λ line. line.now)) (sym c.in-Some.is) ∙ c.line_at.ensures in
    each_ok c.told_line-in-Some.result
    (λ told is. explains_other _ _ _ _ _ _ _ _ (sym c.new-lines.ensures ∙ c.in-Ok.ensures.line) c.if-first-number.false at c.in_ok-complaint-in-Some.ensures is) c.told_line-in-Some.ensures
