use Rattle.std.proofs.Common.{arith}
use Rattle.std.proofs.lemmas.Result.{err_from_is_err_and}
use Rattle.script.specs.Script.IsScriptFault.{Long, NoText}
use Rattle.script.proofs.ScriptLemmas.{begun, taken_steps, in_catalogue, in_max, in_lines, in_orders, whole}
use Rattle.script.proofs.reading.read_script.Goals as goal

pub returns-then-bytes-gt-MAX_LEN-clause-fault : goal.returns-then-bytes-gt-MAX_LEN-clause-fault
returns-then-bytes-gt-MAX_LEN-clause-fault c = λ other. Long (omega arith)

pub returns-in_default-clause-fault : goal.returns-in_default-clause-fault
returns-in_default-clause-fault c = λ other. NoText (omega arith) c.in_default.ensures.cases.0

pub returns-in_err-catalogue-clause-fault : goal.returns-in_err-catalogue-clause-fault
returns-in_err-catalogue-clause-fault c =
    let so_far = begun c.args.mode c.args.bytes.now c.in-Ok.text.now c.new-lines.result (omega arith) c.in-Ok.ensures.cases.1 c.in-Ok.ensures.cases.0 c.new-lines.ensures in
    let p = err_from_is_err_and c.from_residual.result c.from_residual.ensures.1 in
    rw (p.1, p.2) (λ other. in_catalogue _ _ _ _ so_far (c.in_err-catalogue.ensures.fault other))

pub returns-in_err-max-clause-fault : goal.returns-in_err-max-clause-fault
returns-in_err-max-clause-fault c =
    let so_far = begun c.args.mode c.args.bytes.now c.in-Ok.text.now c.new-lines.result (omega arith) c.in-Ok.ensures.cases.1 c.in-Ok.ensures.cases.0 c.new-lines.ensures in
    let p = err_from_is_err_and c.from_residual-in_err-max.result c.from_residual-in_err-max.ensures.1 in
    rw (p.1, p.2) (λ other. in_max _ _ _ _ _ _ so_far c.in_ok-catalogue.ensures.ok (c.in_err-max.ensures.fault other))

pub returns-in_err-body-clause-fault : goal.returns-in_err-body-clause-fault
returns-in_err-body-clause-fault c =
    let so_far = begun c.args.mode c.args.bytes.now c.in-Ok.text.now c.new-lines.result (omega arith) c.in-Ok.ensures.cases.1 c.in-Ok.ensures.cases.0 c.new-lines.ensures in
    let p = err_from_is_err_and c.from_residual-in_err-body.result c.from_residual-in_err-body.ensures.1 in
    rw (p.1, p.2) (λ other. in_lines _ _ _ _ _ _ _ _ so_far c.in_ok-catalogue.ensures.ok c.in_ok-max.ensures.ok (c.in_err-body.ensures.fault other))

pub returns-in_err-orders-clause-fault : goal.returns-in_err-orders-clause-fault
returns-in_err-orders-clause-fault c =
    let so_far = begun c.args.mode c.args.bytes.now c.in-Ok.text.now c.new-lines.result (omega arith) c.in-Ok.ensures.cases.1 c.in-Ok.ensures.cases.0 c.new-lines.ensures in
    let p = err_from_is_err_and c.from_residual-in_err-orders.result c.from_residual-in_err-orders.ensures.1 in
    rw (p.1, p.2) (λ other. in_orders _ _ _ _ _ _ _ _ _ _ _ _ so_far c.in_ok-catalogue.ensures.ok c.in_ok-max.ensures.ok c.in_ok-body.ensures.ok (c.in_err-orders.ensures.fault other))

pub new-requires-clause-steps : goal.new-requires-clause-steps
new-requires-clause-steps c = taken_steps _ _ _ _ _ _ _ c.in_ok-body.ensures.ok

pub returns-clause-ok : goal.returns-clause-ok
returns-clause-ok c =
    let so_far = begun c.args.mode c.args.bytes.now c.in-Ok.text.now c.new-lines.result (omega arith) c.in-Ok.ensures.cases.1 c.in-Ok.ensures.cases.0 c.new-lines.ensures in
    whole _ _ _ _ _ _ _ _ _ _ _ _ _ so_far c.in_ok-catalogue.ensures.ok c.in_ok-max.ensures.ok c.in_ok-body.ensures.ok c.in_ok-orders.ensures.ok c.new.ensures
