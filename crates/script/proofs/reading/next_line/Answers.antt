use Rattle.script.proofs.ScriptLemmas.{not_allowed, no_next}
use Rattle.script.proofs.reading.next_line.Goals as goal

pub returns-in_default : goal.returns-in_default
returns-in_default c = no_next _ _ _ _ (rw c.in_default.is at c.in_ok-line.ensures)

pub returns-then-not-is_allowed : goal.returns-then-not-is_allowed
returns-then-not-is_allowed c = not_allowed _ _ _ _ _ _ (rw c.in-Some.is at c.in_ok-line.ensures) c.is_allowed.ensures c.if-not-is_allowed.true
