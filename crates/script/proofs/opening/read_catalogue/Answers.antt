use Rattle.script.proofs.OpeningLemmas.{no_line, other_line, names_fault}
use Rattle.script.proofs.opening.read_catalogue.Goals as goal

pub returns-in-Err-clause-fault : goal.returns-in-Err-clause-fault
returns-in-Err-clause-fault c = λ other. no_line _ _ c.in-Err.ensures.none.0 c.in-Err.ensures.none.2

pub returns-in-Ok-None-clause-fault : goal.returns-in-Ok-None-clause-fault
returns-in-Ok-None-clause-fault c = λ other. other_line _ _ _ _ c.in-Ok.ensures.line (rw c.in-Ok-None.field-0-is at c.in-Ok-None.ensures)

pub returns-in-Ok-Some-clause-fault : goal.returns-in-Ok-Some-clause-fault
returns-in-Ok-Some-clause-fault c = names_fault _ _ _ _ _ c.catalogue_of.result c.in-Ok.ensures.line (rw c.in-Ok-Some.field-0-is at c.in-Ok-Some.ensures) c.catalogue_of.ensures.fault
