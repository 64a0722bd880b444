use Rattle.std.proofs.Common.{arith, ap, length, ◌∙◌}
use Rattle.std.proofs.lemmas.List.{length_push}
use Rattle.watchdog.proofs.StepLemmas.{fresh_more}
use Rattle.watchdog.proofs.watchdog.Watchdog.new.Goals as goal

pub unwrap-requires : goal.unwrap-requires
unwrap-requires c = c.new.ensures.some.1 c.loop-number-test.true

pub loop-number-preserved : goal.loop-number-preserved
loop-number-preserved c =
    let pushed = c.in_ok-push.ensures.items in
    let same = rw c.unwrap.ensures at c.new.ensures.value in
    let count = ap length pushed ∙ length_push c.loop-number.guards.items c.new-in-loop-number.result in (
      omega (arith, count, c.push.new.self.ok.0, c.loop-number.guards.ok.0, c.loop-number.invariant.0),
      fresh_more c.loop-number.guards.items c.push.new.self.items c.new-in-loop-number.result c.loop-number.number _
          (omega (arith, c.loop-number.guards.ok.0, c.loop-number.invariant.0)) pushed c.new-in-loop-number.ensures same c.loop-number.invariant.1,
    )

pub returns-clause-fresh : goal.returns-clause-fresh
returns-clause-fresh c slot other below = c.loop-number.invariant.1 slot other (omega (arith, below, c.loop-number-test.false))

pub returns-clause-count : goal.returns-clause-count
returns-clause-count c = omega (arith, c.loop-number.guards.ok.0, c.loop-number.invariant.0, c.loop-number-test.false, c.loop-number.auto.number-end)
