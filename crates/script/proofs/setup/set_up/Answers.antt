use Rattle.std.proofs.Common.{◌+◌, ◌∙◌, List, Result, ap, drop, map, refl, arith}
use Rattle.std.proofs.lemmas.Result.{IfOk-from_err, MatchResult-from_err}
use Rattle.desk_core.specs.declared.refusal.Refusal.{Refusal}
use Rattle.desk_core.specs.declared.reply.Reply.{Reply}
use Rattle.script.proofs.RuleLemmas.{rules_first}
use Rattle.script.proofs.ChangeLemmas.{asked}
use Rattle.script.proofs.SetupLemmas.{put_in, setting-turn, setting-passes, setting-meets, setting-end}
use Rattle.script.proofs.setup.set_up.Goals as goal
use Rattle.script.proofs.setup.set_up.Goals.{in-Some, in_default+in-Some-1, in_default+in-None-1}

pub returns-in_err-probes_for-clause-answered : goal.returns-in_err-probes_for-clause-answered
returns-in_err-probes_for-clause-answered g c = IfOk-from_err _ _ c.from_residual.ensures.0

pub returns-in_err-probes_for-clause-names : goal.returns-in_err-probes_for-clause-names
returns-in_err-probes_for-clause-names g c = refl

pub returns-in_err-probes_for-clause-unmet : goal.returns-in_err-probes_for-clause-unmet
returns-in_err-probes_for-clause-unmet g c = MatchResult-from_err _ _ _ c.from_residual.ensures.0 (λ error. refl)

pub returns-in_err-results-clause-answered : goal.returns-in_err-results-clause-answered
returns-in_err-results-clause-answered g c = IfOk-from_err _ _ c.from_residual-in_err-results.ensures.0

pub returns-in_err-results-clause-names : goal.returns-in_err-results-clause-names
returns-in_err-results-clause-names g c = refl

pub returns-in_err-results-clause-unmet : goal.returns-in_err-results-clause-unmet
returns-in_err-results-clause-unmet g c = MatchResult-from_err _ _ _ c.from_residual-in_err-results.ensures.0 (λ error. refl)

pub loop-line-init : goal.loop-line-init
loop-line-init g c = (
  rw c.in_ok-results.ensures.items record {
    on = λ new more answered. answered;
    rules_are = ap (λ probes. map g.P.Probe.rule probes) c.into_iter-probes.ensures.rest ∙ c.in_ok-probes_for.ensures.rules;
  },
  refl,
  omega (arith, c.in_ok-results.ensures.len),
  omega (arith, c.in_ok-results.ensures.capacity),
)

pub probe_of-probe-requires : goal.probe_of-probe-requires
probe_of-probe-requires g c =
    let turn = setting-turn _ _ _ _ _ c.args.lines.now c.loop-line.line-index c.line-item.result _ _ (omega (arith, c.loop-line-test.true)) c.line-item.is c.loop-line.invariant.0 in
    record { handed_in = (_, rules_first c.line-item.result (drop (c.loop-line.line-index + 1) c.args.lines.now) _ turn.rules_are) }

pub change-requires-clause-listed : goal.change-requires-clause-listed
change-requires-clause-listed g c = rw c.catalogue.ensures at c.in-Some.ensures.listed

pub loop-line-preserved : goal.loop-line-preserved
loop-line-preserved g c =
    let turn = setting-turn _ _ _ _ _ c.args.lines.now c.loop-line.line-index c.line-item.result _ _ (omega (arith, c.loop-line-test.true)) c.line-item.is c.loop-line.invariant.0 in
    let same = c.catalogue.ensures ∙ c.loop-line.invariant.1 in
    elim c.match-call.branch [
      | in-Some w ↦ rw (w.registrar-is, w.results-is) (
        setting-meets _ _ _ _ _ _ _ c.line-item.result _ _ _ _ _ _ turn c.probe_of-probe.ensures.left
            (asked _ _ c.line-item.result _ _ same c.call.ensures.change w.in-Some.is) w.change.ensures.answered (put_in {X = List (Result Reply Refusal)} _ _ _ _ _ w.unwrap.ensures w.push.ensures.items),
        w.change.ensures.names ∙ c.loop-line.invariant.1,
        omega (arith, c.loop-line.invariant.2, w.push.ensures.len),
        omega (arith, c.loop-line.invariant.3, w.push.ensures.capacity),
      )
      | in_default+in-Some-1 w ↦ rw (w.registrar-is, w.results-is) (
        setting-passes _ _ _ _ _ _ c.line-item.result _ _ _ turn c.probe_of-probe.ensures.left (asked _ _ c.line-item.result _ _ same c.call.ensures.change w.in_default.is),
        c.loop-line.invariant.1,
        omega (arith, c.loop-line.invariant.2),
        c.loop-line.invariant.3,
      )
      | in_default+in-None-1 w ↦ rw (w.registrar-is, w.results-is) (
        setting-passes _ _ _ _ _ _ c.line-item.result _ _ _ turn c.probe_of-probe.ensures.left (asked _ _ c.line-item.result _ _ same c.call.ensures.change w.in_default.is),
        c.loop-line.invariant.1,
        omega (arith, c.loop-line.invariant.2),
        c.loop-line.invariant.3,
      )
    ]

pub returns-clause-answered : goal.returns-clause-answered
returns-clause-answered g c = setting-end _ _ _ _ _ c.args.lines.now c.loop-line.line-index _ _ (omega (arith, c.loop-line-test.false)) c.loop-line.invariant.0

pub returns-clause-names : goal.returns-clause-names
returns-clause-names g c = c.loop-line.invariant.1
