use Rattle.std.proofs.lemmas.Result.{err_from_is_err_and}
use Rattle.health_wire.specs.Field.IsPayloadFault.{NoLen}
use Rattle.health_wire.proofs.FieldLemmas.{text_found, text_cut}
use Rattle.health_wire.proofs.field.text_at.Goals as goal

pub returns-in_err-len-clause-fault : goal.returns-in_err-len-clause-fault
returns-in_err-len-clause-fault c =
    let p = err_from_is_err_and c.from_residual.result c.from_residual.ensures.1 in
    rw (p.1, p.2) (NoLen _ c.in_err-len.ensures.fault)

pub returns-in-Some-clause-found : goal.returns-in-Some-clause-found
returns-in-Some-clause-found c =
    let cut = c.in-Some.ensures.cases in
    text_found _ _ _ c.in-Some.text.now c.in-Some.after.now c.in_ok-len.ensures.found cut.0 cut.1 cut.2

pub returns-in-None-clause-fault : goal.returns-in-None-clause-fault
returns-in-None-clause-fault c = text_cut _ _ _ c.in_ok-len.ensures.found c.in-None.ensures.cases
