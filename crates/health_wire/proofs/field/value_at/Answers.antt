use Rattle.std.proofs.Common.{arith}
use Rattle.std.proofs.lemmas.Result.{err_from_is_err_and}
use Rattle.health_wire.specs.Field.IsPayloadFault.{NoVarint, CutI64, CutI32, NoType}
use Rattle.health_wire.proofs.FieldLemmas.{no_type}
use Rattle.health_wire.proofs.field.value_at.Goals as goal

pub returns-in_err-value-in-0-clause-fault : goal.returns-in_err-value-in-0-clause-fault
returns-in_err-value-in-0-clause-fault c =
    let p = err_from_is_err_and c.from_residual.result c.from_residual.ensures.1 in
    rw (p.1, p.2, c.in-0.is) (NoVarint _ c.in_err-value-in-0.ensures.fault)

pub returns-in-None-clause-fault : goal.returns-in-None-clause-fault
returns-in-None-clause-fault c = rw c.in-1.is (CutI64 c.in-None.ensures.cases)

pub returns-in-None-split_first_chunk-clause-fault : goal.returns-in-None-split_first_chunk-clause-fault
returns-in-None-split_first_chunk-clause-fault c = rw c.in-5.is (CutI32 c.in-None-split_first_chunk.ensures.cases)

pub returns-in_default-clause-fault : goal.returns-in_default-clause-fault
returns-in_default-clause-fault c = NoType _ (no_type _ (λ e. omega arith) (λ e. omega arith) (λ e. omega arith) (λ e. omega arith))
