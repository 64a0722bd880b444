use Rattle.std.proofs.Common.{sym, subst, refl, ◌∙◌}
use Rattle.watchdog.specs.Falling.{NoFail, Down, HasFallen}
use Rattle.hall.proofs.CarryingOut.{met_ours}
use Rattle.watchdog.proofs.FallLemmas.{failed_more, looked_of, refused_of}
use Rattle.watchdog.proofs.falling.bring_down.Goals as goal

pub loop-init : goal.loop-init
loop-init g c = (tt, tt, c.requires.ours, NoFail c.args.seat.now, refl)

pub returns-in_default-clause-fell : goal.returns-in_default-clause-fell
returns-in_default-clause-fell g c =
    subst (λ refused. HasFallen g.K.Keep.kept c.args.slot c.args.from c.args.seat.now c.fail_unheard.new.seat c.loop.fall.made refused) (sym c.loop.invariant.4)
    (Down c.loop.seat c.loop.invariant.3 (looked_of c.loop.seat c.fail_unheard.new.seat c.in_default.ensures.goes_on c.in_default.ensures.kept) c.in_default.ensures.none)

pub returns-then-is_err-clause-fell : goal.returns-then-is_err-clause-fell
returns-then-is_err-clause-fell g c =
    refused_of g.K.Keep.kept c.args.slot c.args.from c.args.seat.now c.loop.seat c.fail_unheard.new.seat c.loop.fall.made c.in-Some-fail_unheard.effect.result
    c.loop.invariant.3 c.in-Some-fail_unheard.ensures.made (sym c.is_err.ensures.value ∙ c.if-is_err.true)

pub loop-preserved : goal.loop-preserved
loop-preserved g c = (
  tt,
  tt,
  met_ours c.args.hall.now c.loop.seat c.fail_unheard.new.seat _ c.in-Some-fail_unheard.effect.result c.loop.invariant.2 c.in-Some-fail_unheard.ensures.made,
  failed_more g.K.Keep.kept c.args.slot c.args.from c.args.seat.now c.loop.seat c.fail_unheard.new.seat c.loop.fall.made c.in-Some-fail_unheard.effect.result
      c.loop.invariant.3 c.in-Some-fail_unheard.ensures.made (sym c.is_err.ensures.value ∙ c.if-is_err.false) c.in-Some-fail_unheard.ensures.due,
  c.loop.invariant.4,
)
