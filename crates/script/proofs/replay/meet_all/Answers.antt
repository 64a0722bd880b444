use Rattle.std.proofs.Common.{◌+◌, ap, drop, refl, arith}
use Rattle.script.proofs.RuleLemmas.{rules_first}
use Rattle.script.proofs.ReplayLemmas.{running-turn, running-next, running-end}
use Rattle.script.proofs.replay.meet_all.Goals as goal

pub loop-line-init : goal.loop-line-init
loop-line-init g c = rw c.new-output.ensures.bytes record { on = λ rest later. later; steps = c.requires.steps; rules_are = c.requires.ruled }

pub probe_of-probe-requires : goal.probe_of-probe-requires
probe_of-probe-requires g c =
    let turn = running-turn _ _ _ c.args.lines.now c.args.lines.now c.loop-line.line-index c.line-item.result _ _ refl (omega (arith, c.loop-line-test.true)) c.line-item.is c.loop-line.invariant in
    record { handed_in = (_, rules_first c.line-item.result (drop (c.loop-line.line-index + 1) c.args.lines.now) _ turn.rules_are) }

pub meet-requires-clause-opened : goal.meet-requires-clause-opened
meet-requires-clause-opened g c =
    let turn = running-turn _ _ _ c.args.lines.now c.args.lines.now c.loop-line.line-index c.line-item.result _ _ refl (omega (arith, c.loop-line-test.true)) c.line-item.is c.loop-line.invariant in
    turn.steps.0

pub meet-requires-clause-ruled : goal.meet-requires-clause-ruled
meet-requires-clause-ruled g c = c.probe_of-probe.ensures.ruled

pub loop-line-preserved : goal.loop-line-preserved
loop-line-preserved g c =
    running-next _ _ _ _ _ c.line-item.result _ _ _ _ _
    (running-turn _ _ _ c.args.lines.now c.args.lines.now c.loop-line.line-index c.line-item.result _ _ refl (omega (arith, c.loop-line-test.true)) c.line-item.is c.loop-line.invariant)
    c.probe_of-probe.ensures.left c.in_ok-outcome.ensures c.in_ok-writeln.ensures.bytes

pub returns : goal.returns
returns g c =
    running-end _ _ _ c.args.lines.now c.args.lines.now c.loop-line.line-index _ _ _ refl (omega (arith, c.loop-line-test.false)) (ap (λ bytes. bytes.items) c.into_bytes.ensures.value) c.loop-line.invariant
