use Rattle.std.proofs.Common.{arith}
use Rattle.script.proofs.LineLemmas.{read_fall, read_rise, read_unknown, without_fall, without_rise, with_one}
use Rattle.script.proofs.rule.threshold_of.Goals as goal
use Rattle.script.proofs.rule.threshold_of.Goals.{in-len1, in-len2, in-unknown}

pub returns : goal.returns
returns c =
    elim c.if-words-lt2.branch [
      | in-len1 w ↦ read_fall _ _ _ _ _ _ w.in-len1.len_at_least w.in-len1.len_below w.number_of.ensures w.fall-is c.in_ok-fall.was c.in_ok-rise.was
      | in-len2 w ↦ read_rise _ _ _ _ _ _ _ w.in-len2.len_at_least w.in-len2.len_below w.number_of-in-len2.ensures w.number_of-in-len2-2.ensures w.fall-is c.in_ok-fall.was c.in_ok-rise.was
      | in-unknown w ↦ read_unknown _ _ _ _ _ _ _ w.in-unknown.len_at_least w.in-unknown.len_below w.in-unknown.is-unknown w.number_of-in-unknown.ensures w.number_of-in-unknown-2.ensures w.fall-is
          c.in_ok-fall.was c.in_ok-rise.was
    ]

pub returns-in_err-fall : goal.returns-in_err-fall
returns-in_err-fall c = rw c.from_residual.ensures (
    elim c.if-words-lt2.branch [
      | in-len1 w ↦ without_fall _ _ _ _ _ _ w.in-len1.len_at_least w.number_of.ensures w.fall-is c.in_err-fall.was
      | in-len2 w ↦ without_fall _ _ _ _ _ _ (omega arith) w.number_of-in-len2.ensures w.fall-is c.in_err-fall.was
      | in-unknown w ↦ without_fall _ _ _ _ _ _ (omega arith) w.number_of-in-unknown.ensures w.fall-is c.in_err-fall.was
    ])

pub returns-in_err-rise : goal.returns-in_err-rise
returns-in_err-rise c = rw c.from_residual-in_err-rise.ensures (
    elim c.if-words-lt2.branch [
      | in-len1 w ↦ with_one _ _ w.fall-is c.in_err-rise.was
      | in-len2 w ↦ without_rise _ _ _ _ _ _ w.in-len2.len_at_least w.number_of-in-len2-2.ensures w.fall-is c.in_err-rise.was
      | in-unknown w ↦ without_rise _ _ _ _ _ _ (omega arith) w.number_of-in-unknown-2.ensures w.fall-is c.in_err-rise.was
    ])
