use Rattle.std.proofs.Common.{rules, ◌<◌, ◌≤◌, refl, length, subst, arith}
use Rattle.std.specs.List.{All}
use Rattle.std.proofs.lemmas.List.{take_all}
use Rattle.watchdog.specs.Watching.{NoStep, WasLooked}
use Rattle.watchdog.proofs.StepLemmas.{looked_more, stepped_more}
use Rattle.watchdog.proofs.steps.look_all.Goals as goal

pub loop-index-init : goal.loop-index-init
loop-index-init g c = (refl, c.requires.ours, λ k d below. absurd (omega (arith, below)), NoStep c.args.guards.now.items c.args.seat.now)

pub loop-index-preserved : goal.loop-index-preserved
loop-index-preserved g c =
    let below : c.loop-index.index < length c.loop-index.guards.items = search rules in (
      c.loop-index.invariant.0,
      c.look_one-shows.ensures.ours,
      looked_more c.args.now c.loop-index.guards.items c.loop-index.index c.look_one-shows.new.guard below c.loop-index.invariant.2 c.look_one-shows.ensures.looked,
      stepped_more g.K.Keep.kept c.args.now c.args.guards.now.items c.loop-index.guards.items c.args.seat.now c.loop-index.seat c.look_one-shows.new.seat c.loop-index.index
          c.index_mut.result.now c.look_one-shows.new.guard c.loop-index.invariant.3 below c.index_mut.ensures.value c.look_one-shows.ensures.step,
    )

pub returns-clause-all : goal.returns-clause-all
returns-clause-all g c =
    let whole : length c.loop-index.guards.items ≤ c.loop-index.index = search rules in
    subst (All (WasLooked c.args.now)) (take_all c.loop-index.index c.loop-index.guards.items whole) c.loop-index.invariant.2
