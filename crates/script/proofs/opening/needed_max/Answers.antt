use Rattle.script.proofs.OpeningLemmas.{no_max_line, other_max_line}
use Rattle.script.proofs.opening.needed_max.Goals as goal

pub returns-in-Err-clause-fault : goal.returns-in-Err-clause-fault
returns-in-Err-clause-fault c = λ other. no_max_line _ _ c.in-Err.ensures.none.0 c.in-Err.ensures.none.2

pub returns-in-Ok-None-clause-fault : goal.returns-in-Ok-None-clause-fault
returns-in-Ok-None-clause-fault c = λ other. other_max_line _ _ _ _ c.in-Ok.ensures.line (rw c.in-Ok-None.field-0-is at c.in-Ok-None.ensures)
