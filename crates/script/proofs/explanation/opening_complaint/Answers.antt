use Rattle.script.proofs.explanation.opening_complaint.Goals as goal

pub returns-in_default : goal.returns-in_default
returns-in_default c = (λ same. cc, λ has. absurd ((rw c.in_default.is at c.in_ok-_names.ensures) has.0 has.1))
