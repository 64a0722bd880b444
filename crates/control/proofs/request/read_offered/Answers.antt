use Rattle.control.proofs.RequestLemmas.{no_line, not_offered}
use Rattle.control.proofs.request.read_offered.Goals as goal

pub returns-in_default : goal.returns-in_default
returns-in_default c = no_line _ _ (rw c.in_default.is at c.in_ok-line.ensures)

pub returns-else-is_offered : goal.returns-else-is_offered
returns-else-is_offered c = not_offered _ _ _ (rw c.in-Some.is at c.in_ok-line.ensures) _ c.is_offered.ensures c.if-is_offered.false
