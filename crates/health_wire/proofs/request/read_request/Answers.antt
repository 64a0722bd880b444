use Rattle.std.proofs.Common.{◌≡◌, ◌<◌, [], length, rules, arith}
use Rattle.std.proofs.lemmas.Grind.{common_steps}
use Rattle.std.proofs.lemmas.Result.{err_from_is_err_and}
use Rattle.health_wire.specs.Request.{service_in, name_of}
use Rattle.health_wire.specs.Request.IsRequestFault.{Wire, Name}
use Rattle.health_wire.proofs.MessageLemmas.{start, next, done, stuck, given_after}
use Rattle.health_wire.proofs.request.read_request.Goals as goal

pub loop-rest-init : goal.loop-rest-init
loop-rest-init c = start name_of c.args.bytes.now

pub returns-in_err-field-clause-err : goal.returns-in_err-field-clause-err
returns-in_err-field-clause-err c =
    let p = err_from_is_err_and c.from_residual.result c.from_residual.ensures.1 in
    let more : 0 < length c.loop-rest.rest.now = search rules in
    rw (p.1, p.2) (Wire _ (stuck name_of _ _ _ _ c.loop-rest.invariant more c.in_err-field.ensures.fault))

pub loop-rest-preserved : goal.loop-rest-preserved
loop-rest-preserved c = next name_of _ _ _ _ _ _ c.loop-rest.invariant c.in_ok-field.ensures.found (given_after service_in [] _ _ _ c.service_after-service.ensures)

pub returns-in-Ok-clause-ok : goal.returns-in-Ok-clause-ok
returns-in-Ok-clause-ok c =
    let empty : length c.loop-rest.rest.now ≡ 0 = grind (arith, common_steps) in
    let read = done name_of _ _ _ empty c.loop-rest.invariant in
    rw c.in-Ok.ensures.cases.0 (record { fields = read.0; message = read.1; name_is = read.2 })

pub returns-in-Err-clause-err : goal.returns-in-Err-clause-err
returns-in-Err-clause-err c =
    let empty : length c.loop-rest.rest.now ≡ 0 = grind (arith, common_steps) in
    let read = done name_of _ _ _ empty c.loop-rest.invariant in
    Name _ (record { fields = read.0; message = read.1; name_is = read.2 }) c.in-Err.ensures.cases.0
