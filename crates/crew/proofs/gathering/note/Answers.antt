use Rattle.std.proofs.lemmas.Result.{err_from_is_err_and}
use Rattle.crew.proofs.NotingLemmas.{put_fails, put_notes}
use Rattle.crew.proofs.gathering.note.Goals as goal

pub returns-in_err-put-clause-err : goal.returns-in_err-put-clause-err
returns-in_err-put-clause-err c =
    let p = err_from_is_err_and c.from_residual.result c.from_residual.ensures.1 in
    rw (p.1, p.2)
    (put_fails _ c.args.found.now c.loop-number.places c.put.new.places c.loop-number.number-index _ c.put.result _ c.loop-number-test.true c.loop-number.invariant c.in_err-put.was
    (record { free = c.put.ensures.free; taken = c.put.ensures.taken; none = c.put.ensures.none }))

pub loop-number-preserved : goal.loop-number-preserved
loop-number-preserved c =
    put_notes _ c.args.found.now c.loop-number.places c.put.new.places c.loop-number.number-index _ c.put.result _ c.loop-number-test.true c.loop-number.invariant c.in_ok-put.was
    (record { free = c.put.ensures.free; taken = c.put.ensures.taken; none = c.put.ensures.none })
