use Rattle.std.proofs.Common.{true≢false, refl, ap, sym, subst, ◌∙◌}
use Rattle.std.specs.Time.{instant_nanos}
use Rattle.watchdog.specs.Falling.{HasFallen}
use Rattle.watchdog.specs.Guard.{GuardState}
use Rattle.watchdog.specs.Timer.{is_overdue}
use Rattle.watchdog.proofs.StepLemmas.{looked_view, refused_view}
use Rattle.watchdog.proofs.guard.Guard.look.Goals as goal

pub returns-then-not-look-clause-early : goal.returns-then-not-look-clause-early
returns-then-not-look-clause-early g c =
    sym (c.look.ensures.told ∙ ap (λ (s : GuardState). is_overdue s.met (instant_nanos c.args.now)) c.self.view_is) ∙ c.if-not-look.true

pub returns-then-not-look-clause-waits : goal.returns-then-not-look-clause-waits
returns-then-not-look-clause-waits g c = (
  looked_view c.args.now c.self.inside.slot c.self.inside.wish c.self.inside.place c.self.inside.timer c.look.new.self _ c.self.view_is c.look.ensures.past,
  refl,
)

pub returns-then-fall-clause-due : goal.returns-then-fall-clause-due
returns-then-fall-clause-due g c =
    sym (c.look.ensures.told ∙ ap (λ (s : GuardState). is_overdue s.met (instant_nanos c.args.now)) c.self.view_is) ∙ c.if-not-look.false

pub returns-then-fall-clause-fell : goal.returns-then-fall-clause-fell
returns-then-fall-clause-fell g c =
    subst (λ (s : GuardState). HasFallen g.K.Keep.kept s.slot s.place c.args.seat.now c.bring_down-fall.new.seat c.bring_down-fall.result.made c.bring_down-fall.result.is_refused)
    c.self.view_is c.bring_down-fall.ensures.fell

pub returns-then-fall-clause-down : goal.returns-then-fall-clause-down
returns-then-fall-clause-down g c down = absurd (true≢false (sym c.if-fall.true ∙ down))

pub returns-then-fall-clause-refused : goal.returns-then-fall-clause-refused
returns-then-fall-clause-refused g c refused =
    refused_view c.args.now c.self.inside.slot c.self.inside.wish c.self.inside.place c.self.inside.timer c.look.new.self c.refuse.new.self _ c.self.view_is c.look.ensures.past
    c.refuse.ensures

pub returns-else-fall-clause-due : goal.returns-else-fall-clause-due
returns-else-fall-clause-due g c =
    sym (c.look.ensures.told ∙ ap (λ (s : GuardState). is_overdue s.met (instant_nanos c.args.now)) c.self.view_is) ∙ c.if-not-look.false

pub returns-else-fall-clause-fell : goal.returns-else-fall-clause-fell
returns-else-fall-clause-fell g c =
    subst (λ (s : GuardState). HasFallen g.K.Keep.kept s.slot s.place c.args.seat.now c.bring_down-fall.new.seat c.bring_down-fall.result.made c.bring_down-fall.result.is_refused)
    c.self.view_is c.bring_down-fall.ensures.fell

pub returns-else-fall-clause-down : goal.returns-else-fall-clause-down
returns-else-fall-clause-down g c down =
    looked_view c.args.now c.self.inside.slot c.self.inside.wish c.self.inside.place c.self.inside.timer c.look.new.self _ c.self.view_is c.look.ensures.past

pub returns-else-fall-clause-refused : goal.returns-else-fall-clause-refused
returns-else-fall-clause-refused g c refused = absurd (true≢false (sym refused ∙ c.if-fall.false))
