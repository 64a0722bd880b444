use Rattle.script.proofs.ExplanationLemmas.{found_behind}
use Rattle.script.proofs.explanation.complaint_behind.Goals as goal

pub returns-in_default : goal.returns-in_default
returns-in_default c = λ names is faultless. absurd ((rw c.in_default.is at c.in_ok-names.ensures) names is)

pub returns-in-Ok : goal.returns-in-Ok
returns-in-Ok c = found_behind _ _ _ _ _ (rw c.in-Some.is at c.in_ok-names.ensures) c.in-Ok.ensures.ok c.complaint_of.ensures.none c.complaint_of.ensures.so
