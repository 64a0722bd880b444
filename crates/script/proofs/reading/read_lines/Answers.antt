use Rattle.std.proofs.Common.{◌∙◌, refl}
use Rattle.std.proofs.lemmas.Result.{IfOk-from_err, err_from_is_err_and}
use Rattle.script.proofs.ScriptLemmas.{next, next_expectation, ends, goes, stuck, fails}
use Rattle.script.proofs.reading.read_lines.Goals as goal

pub loop-number-preserved-in-Some : goal.loop-number-preserved-in-Some
loop-number-preserved-in-Some c =
    next_expectation _ _ _ _ _ _ _ _ _ _ _ _ _ _ c.loop-number.invariant c.in-Ok.ensures.line (rw c.in-Some.is at c.in_ok-expectation.ensures) (c.len-behind.ensures ∙ c.loop-number.taken.ok.0) c.in_ok-push.ensures.items

pub loop-number-preserved : goal.loop-number-preserved
loop-number-preserved c =
    next _ _ _ _ _ _ _ _ _ _ _ _ _ _ _ c.loop-number.invariant c.in-Ok.ensures.line (rw c.in_default-2.is at c.in_ok-expectation.ensures) (rw c.in-Some-2.is at c.in_ok-line.ensures)
    c.watches_after-watches.ensures c.in_ok-push-2.ensures.items c.in_ok-push-3.ensures.items

pub returns-then-is_go-clause-ok : goal.returns-then-is_go-clause-ok
returns-then-is_go-clause-ok c = goes _ _ _ _ _ _ _ _ _ _ _ c.loop-number.invariant c.in-Ok.ensures.line (c.is_go.ensures.0 c.if-is_go.true)

pub returns-in_default-3-clause-fault : goal.returns-in_default-3-clause-fault
returns-in_default-3-clause-fault c = λ other.
    stuck _ _ _ _ _ _ _ _ _ _ _ c.loop-number.invariant c.in-Ok.ensures.line (fails _ c.is_go.ensures c.if-is_go.false) (rw c.in_default-2.is at c.in_ok-expectation.ensures)
    (rw c.in_default-3.is at c.in_ok-line.ensures)

pub returns-clause-ok : goal.returns-clause-ok
returns-clause-ok c = ends _ _ _ _ _ _ _ _ _ c.loop-number.invariant c.in_default.ensures.none.0 c.in_default.ensures.none.1

pub returns-in_err-expectation-clause-ok : goal.returns-in_err-expectation-clause-ok
returns-in_err-expectation-clause-ok c = IfOk-from_err _ _ c.from_residual.ensures.0

pub returns-in_err-expectation-clause-each : goal.returns-in_err-expectation-clause-each
returns-in_err-expectation-clause-each c = IfOk-from_err _ _ c.from_residual.ensures.0

pub returns-in_err-expectation-clause-fault : goal.returns-in_err-expectation-clause-fault
returns-in_err-expectation-clause-fault c =
    let p = err_from_is_err_and c.from_residual.result c.from_residual.ensures.1 in
    rw (p.1, p.2) (λ other. absurd (other refl))

pub returns-in_err-push-clause-ok : goal.returns-in_err-push-clause-ok
returns-in_err-push-clause-ok c = IfOk-from_err _ _ c.from_residual-in_err-push.ensures.0

pub returns-in_err-push-clause-each : goal.returns-in_err-push-clause-each
returns-in_err-push-clause-each c = IfOk-from_err _ _ c.from_residual-in_err-push.ensures.0

pub returns-in_err-push-clause-fault : goal.returns-in_err-push-clause-fault
returns-in_err-push-clause-fault c =
    let p = err_from_is_err_and c.from_residual-in_err-push.result c.from_residual-in_err-push.ensures.1 in
    rw (p.1, p.2) (λ other. absurd (other refl))

pub returns-in_err-line-clause-ok : goal.returns-in_err-line-clause-ok
returns-in_err-line-clause-ok c = IfOk-from_err _ _ c.from_residual-in_err-line.ensures.0

pub returns-in_err-line-clause-each : goal.returns-in_err-line-clause-each
returns-in_err-line-clause-each c = IfOk-from_err _ _ c.from_residual-in_err-line.ensures.0

pub returns-in_err-line-clause-fault : goal.returns-in_err-line-clause-fault
returns-in_err-line-clause-fault c =
    let p = err_from_is_err_and c.from_residual-in_err-line.result c.from_residual-in_err-line.ensures.1 in
    rw (p.1, p.2) (λ other. absurd (other refl))

pub returns-in_err-push-2-clause-ok : goal.returns-in_err-push-2-clause-ok
returns-in_err-push-2-clause-ok c = IfOk-from_err _ _ c.from_residual-in_err-push-2.ensures.0

pub returns-in_err-push-2-clause-each : goal.returns-in_err-push-2-clause-each
returns-in_err-push-2-clause-each c = IfOk-from_err _ _ c.from_residual-in_err-push-2.ensures.0

pub returns-in_err-push-2-clause-fault : goal.returns-in_err-push-2-clause-fault
returns-in_err-push-2-clause-fault c =
    let p = err_from_is_err_and c.from_residual-in_err-push-2.result c.from_residual-in_err-push-2.ensures.1 in
    rw (p.1, p.2) (λ other. absurd (other refl))

pub returns-in_err-push-3-clause-ok : goal.returns-in_err-push-3-clause-ok
returns-in_err-push-3-clause-ok c = IfOk-from_err _ _ c.from_residual-in_err-push-3.ensures.0

pub returns-in_err-push-3-clause-each : goal.returns-in_err-push-3-clause-each
returns-in_err-push-3-clause-each c = IfOk-from_err _ _ c.from_residual-in_err-push-3.ensures.0

pub returns-in_err-push-3-clause-fault : goal.returns-in_err-push-3-clause-fault
returns-in_err-push-3-clause-fault c =
    let p = err_from_is_err_and c.from_residual-in_err-push-3.result c.from_residual-in_err-push-3.ensures.1 in
    rw (p.1, p.2) (λ other. absurd (other refl))
