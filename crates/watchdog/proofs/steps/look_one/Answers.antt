use Rattle.std.proofs.Common.{sym, subst, inl, ap}
use Rattle.watchdog.specs.Guard.{GuardState}
use Rattle.watchdog.specs.Watching.{IsStep, Waits}
use Rattle.watchdog.proofs.StepLemmas.{falls_so, looked_so}
use Rattle.watchdog.proofs.steps.look_one.Goals as goal

pub returns-in_default-clause-step : goal.returns-in_default-clause-step
returns-in_default-clause-step g c =
    subst (λ seat. IsStep g.K.Keep.kept c.args.now c.args.guard.now c.args.seat.now c.look.new.self seat) (sym c.in_default.ensures.waits.1)
    (subst (λ guard. IsStep g.K.Keep.kept c.args.now c.args.guard.now c.args.seat.now guard c.args.seat.now) (sym c.in_default.ensures.waits.0)
    (Waits c.in_default.ensures.early))

pub returns-in_default-clause-looked : goal.returns-in_default-clause-looked
returns-in_default-clause-looked g c = (c.args.guard.now.met, inl (ap (λ (guard : GuardState). guard.met) c.in_default.ensures.waits.0))

pub returns-then-fall-clause-step : goal.returns-then-fall-clause-step
returns-then-fall-clause-step g c =
    falls_so g.K.Keep.kept c.args.guard.now c.look.new.self c.args.seat.now c.look.new.seat c.args.now c.in-Some.fall.made c.in-Some.fall.is_refused
    c.in-Some.ensures.due c.in-Some.ensures.fell c.in-Some.ensures.down c.in-Some.ensures.refused

pub returns-then-fall-clause-looked : goal.returns-then-fall-clause-looked
returns-then-fall-clause-looked g c = looked_so c.args.guard.now c.look.new.self c.args.now c.in-Some.fall.is_refused c.in-Some.ensures.down c.in-Some.ensures.refused

pub returns-else-fall-clause-step : goal.returns-else-fall-clause-step
returns-else-fall-clause-step g c =
    falls_so g.K.Keep.kept c.args.guard.now c.look.new.self c.args.seat.now c.look.new.seat c.args.now c.in-Some.fall.made c.in-Some.fall.is_refused
    c.in-Some.ensures.due c.in-Some.ensures.fell c.in-Some.ensures.down c.in-Some.ensures.refused

pub returns-else-fall-clause-looked : goal.returns-else-fall-clause-looked
returns-else-fall-clause-looked g c = looked_so c.args.guard.now c.look.new.self c.args.now c.in-Some.fall.is_refused c.in-Some.ensures.down c.in-Some.ensures.refused
