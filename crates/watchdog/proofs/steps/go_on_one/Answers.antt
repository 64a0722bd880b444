use Rattle.std.proofs.Common.{rules, ◌<◌, length, ap, sym, subst, ◌∙◌}
use Rattle.tail.specs.Tail.{forgotten}
use Rattle.watchdog.specs.Found.{IsFound}
use Rattle.watchdog.specs.Guard.{passed, skipped}
use Rattle.watchdog.specs.Watching.{IsStep, PassesBy, Skips, Stays}
use Rattle.watchdog.proofs.steps.go_on_one.Goals as goal

pub returns-then-not-is_awake : goal.returns-then-not-is_awake
returns-then-not-is_awake c kept seat same found =
    let none = c.if-not-is_awake.ensures.asleep (search rules) in
    let end = subst (IsFound kept c.args.entries.now seat) c.in-Asleep.is found in
    subst (λ guard. IsStep kept c.args.now c.args.guard.now seat guard seat)
    (sym (c.pass.ensures ∙ ap (λ n. passed n c.args.guard.now) end)) (PassesBy none.0 none.1)

pub returns-else-not-is_awake : goal.returns-else-not-is_awake
returns-else-not-is_awake c kept seat same found = Stays

pub returns-then-place : goal.returns-then-place
returns-then-place c kept seat same found =
    let gone = subst (IsFound kept c.args.entries.now seat) c.in-Forgotten.is found in
    subst (λ guard. IsStep kept c.args.now c.args.guard.now seat guard seat)
    (sym (c.skip.ensures ∙ ap (λ end. skipped c.args.now end c.args.guard.now) gone.1))
    (Skips (subst (λ place. place < forgotten kept (length seat.seen)) (sym (sym c.place.ensures ∙ c.if-place.true)) gone.0))

pub returns-else-place : goal.returns-else-place
returns-else-place c kept seat same found = Stays
