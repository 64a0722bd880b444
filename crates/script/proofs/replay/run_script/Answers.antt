use Rattle.std.proofs.Common.{◌∙◌, ap, map, sym}
use Rattle.script.specs.Rules.{rules_in}
use Rattle.script.proofs.ExplanationLemmas.{each_ok}
use Rattle.script.proofs.ReplayLemmas.{script_run}
use Rattle.script.proofs.replay.run_script.Goals as goal

pub meet_all-requires-clause-steps : goal.meet_all-requires-clause-steps
meet_all-requires-clause-steps g c = rw (c.new-run.ensures, c.deref-2.ensures.value, c.into_parts-catalogue.ensures.lines) c.into_parts-catalogue.ensures.steps

pub meet_all-requires-clause-ruled : goal.meet_all-requires-clause-ruled
meet_all-requires-clause-ruled g c =
    ap (λ probes. map g.P.Probe.rule probes) c.into_iter-probes.ensures.rest ∙ c.in_ok-probes_for.ensures.rules ∙ ap rules_in (c.deref.ensures.value ∙ sym c.deref-2.ensures.value)

pub returns : goal.returns
returns g c =
    let parts = c.into_parts-catalogue.ensures in
    each_ok c.meet_all.result
    (λ output printed. script_run c.args.script _ _ _ _ _ c.new-run.ensures parts.catalogue parts.max c.deref-2.ensures.value parts.lines _ printed) c.meet_all.ensures
