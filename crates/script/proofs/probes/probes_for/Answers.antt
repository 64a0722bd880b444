use Rattle.std.proofs.lemmas.Result.{IfOk-from_err}
use Rattle.std.proofs.Common.{Global, Vec, ◌+◌, take, ap, subst, sym, ◌∙◌, arith}
use Rattle.script.proofs.RuleLemmas.{AreMade, made_one, made_none}
use Rattle.script.proofs.probes.probes_for.Goals as goal
use Rattle.script.proofs.probes.probes_for.Goals.{in-Some+in_ok-make+in_ok-push, in_default}

pub loop-line-preserved : goal.loop-line-preserved
loop-line-preserved g c = elim c.match-rule.branch [
  | in-Some+in_ok-make+in_ok-push w ↦
      made_one g.P.Probe.rule g.P.Probe.memory c.args.lines.now c.loop-line.line-index c.line-item.result _ _ _ _ _ _ (omega arith) c.line-item.is c.rule.ensures w.in-Some.is
      w.make.ensures w.in_ok-make.was (ap (λ v. v.items) w.probes-is ∙ w.in_ok-push.ensures.items) c.loop-line.invariant
  | in_default w ↦
      let Made = λ (v : Vec g.row.P.Denot Global). AreMade g.P.Probe.rule g.P.Probe.memory (take (c.loop-line.line-index + 1) c.args.lines.now) v.items in
      subst Made (sym w.probes-is) (made_none g.P.Probe.rule g.P.Probe.memory c.args.lines.now c.loop-line.line-index c.line-item.result _ _
      (omega arith) c.line-item.is c.rule.ensures w.in_default.is c.loop-line.invariant)
]

pub returns-in_err-make-clause-rules : goal.returns-in_err-make-clause-rules
returns-in_err-make-clause-rules g c = IfOk-from_err _ _ c.from_residual.ensures.0

pub returns-in_err-make-clause-memories : goal.returns-in_err-make-clause-memories
returns-in_err-make-clause-memories g c = IfOk-from_err _ _ c.from_residual.ensures.0

pub returns-in_err-push-clause-rules : goal.returns-in_err-push-clause-rules
returns-in_err-push-clause-rules g c = IfOk-from_err _ _ c.from_residual-in_err-push.ensures.0

pub returns-in_err-push-clause-memories : goal.returns-in_err-push-clause-memories
returns-in_err-push-clause-memories g c = IfOk-from_err _ _ c.from_residual-in_err-push.ensures.0
