use Rattle.std.proofs.lemmas.Result.{err_from_is_err_and}
use Rattle.health_wire.specs.Field.IsFieldFault.{NoTag}
use Rattle.health_wire.proofs.FieldLemmas.{number_fault, payload_fault, field_found}
use Rattle.health_wire.proofs.field.field_at.Goals as goal

pub returns-in_err-tag-clause-fault : goal.returns-in_err-tag-clause-fault
returns-in_err-tag-clause-fault c =
    let p = err_from_is_err_and c.from_residual.result c.from_residual.ensures.1 in
    rw (p.1, p.2) (NoTag _ c.in_err-tag.ensures.fault)

pub returns-in_default-clause-fault : goal.returns-in_default-clause-fault
returns-in_default-clause-fault c = number_fault _ _ _ c.in_ok-tag.ensures.found c.in_default.ensures.none

pub returns-in_err-value-clause-fault : goal.returns-in_err-value-clause-fault
returns-in_err-value-clause-fault c =
    let p = err_from_is_err_and c.from_residual-in_err-value.result c.from_residual-in_err-value.ensures.1 in
    let number = c.in-Some.ensures.found in
    rw (p.1, p.2) (payload_fault _ _ _ _ c.in_ok-tag.ensures.found (rw number.0 at number.1) c.in_err-value.ensures.fault)

pub returns-clause-found : goal.returns-clause-found
returns-clause-found c =
    let number = c.in-Some.ensures.found in
    field_found _ _ _ _ _ _ c.in_ok-tag.ensures.found number.0 number.1 c.in_ok-value.ensures.wire_type c.in_ok-value.ensures.found
