use Rattle.std.proofs.Common.{rules, ◌<◌, refl, length}
use Rattle.watchdog.specs.Watching.{NoStep}
use Rattle.watchdog.proofs.StepLemmas.{stepped_more}
use Rattle.watchdog.proofs.steps.go_on_all.Goals as goal

pub loop-index-init : goal.loop-index-init
loop-index-init c = (refl, λ kept seat same found. NoStep c.args.guards.now.items seat)

pub loop-index-preserved : goal.loop-index-preserved
loop-index-preserved c =
    let below : c.loop-index.index < length c.loop-index.guards.items = search rules in (
      c.loop-index.invariant.0,
      λ kept seat same found. stepped_more kept c.args.now c.args.guards.now.items c.loop-index.guards.items seat seat seat c.loop-index.index
          c.index_mut.result.now c.go_on_one.new.guard (c.loop-index.invariant.1 kept seat same found) below c.index_mut.ensures.value
          (c.go_on_one.ensures kept seat same found),
    )
