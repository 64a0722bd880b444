use Rattle.std.proofs.Common.{sym, ◌∙◌}
use Rattle.script.proofs.ExplanationLemmas.{each_ok, explains_no_names}
use Rattle.script.proofs.explanation.explain_names.Goals as goal

pub returns-in_default-2 : goal.returns-in_default-2
returns-in_default-2 c =
    each_ok c.told_names-in_default-2.result
    (λ told is. explains_no_names _ _ _ _ _ _ (sym c.new-lines.ensures ∙ c.in-Ok.ensures.line) (λ words. (rw c.in_default-2.is at c.in_ok-words.ensures) _)) c.told_names-in_default-2.ensures
