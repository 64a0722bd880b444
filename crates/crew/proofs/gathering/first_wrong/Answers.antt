use Rattle.std.proofs.Common.{arith}
use Rattle.crew.proofs.WrongReports.{stranger_fails, found_double_fails, sound_with}
use Rattle.crew.proofs.gathering.first_wrong.Goals as goal

pub returns-then-number-expected-clause-some : goal.returns-then-number-expected-clause-some
returns-then-number-expected-clause-some c =
    stranger_fails c.args.expected c.args.found.now c.loop-place.place _ (omega arith) c.loop-place.invariant c.if-number-expected.true

pub returns-then-has_number-clause-some : goal.returns-then-has_number-clause-some
returns-then-has_number-clause-some c =
    found_double_fails c.args.expected c.args.found.now c.loop-place.place _ _ (omega arith) c.loop-place.invariant c.has_number.ensures c.if-has_number.true

pub loop-place-preserved : goal.loop-place-preserved
loop-place-preserved c =
    sound_with c.args.expected c.args.found.now c.loop-place.place _ _ (omega arith) c.loop-place.invariant c.if-number-expected.false c.has_number.ensures c.if-has_number.false
