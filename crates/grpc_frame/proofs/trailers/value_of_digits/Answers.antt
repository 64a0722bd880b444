use Rattle.std.proofs.Common.{arith, refl}
use Rattle.grpc_frame.proofs.Digits.{one_more, stays_small}
use Rattle.grpc_frame.proofs.trailers.value_of_digits.Goals as goal

pub overflow_mul-number : goal.overflow_mul-number
overflow_mul-number c =
    omega (arith, stays_small c.args.digits.now c.loop-digit.digit-index c.loop-digit.number _ c.requires.digits c.requires.short c.loop-digit-test.true c.loop-digit.invariant refl)

pub overflow_add-number : goal.overflow_add-number
overflow_add-number c =
    omega (
      arith,
      stays_small c.args.digits.now c.loop-digit.digit-index c.loop-digit.number c.from.result c.requires.digits c.requires.short
          c.loop-digit-test.true c.loop-digit.invariant c.from.ensures,
    )

pub loop-digit-preserved : goal.loop-digit-preserved
loop-digit-preserved c =
    one_more c.args.digits.now c.loop-digit.digit-index c.loop-digit.number c.from.result c.requires.digits c.loop-digit-test.true c.loop-digit.invariant c.from.ensures
