use Rattle.script.specs.Line.IsRule.{ManualRule, DependsRule}
use Rattle.script.proofs.LineLemmas.{no_mask, read_threshold}
use Rattle.script.proofs.WordLemmas.{one_word, first_word}
use Rattle.script.proofs.rule.rule_of.Goals as goal

pub returns-in-threshold : goal.returns-in-threshold
returns-in-threshold c =
    rw (first_word c.args.words.now _ _ c.in-threshold.len_at_least c.in-threshold.is-threshold) (read_threshold _ _ _ c.threshold_of.ensures)

pub returns-in-manual : goal.returns-in-manual
returns-in-manual c = rw (one_word c.args.words.now _ _ c.in-manual.len_at_least c.in-manual.len_below c.in-manual.is-manual) ManualRule

pub returns-in-depends : goal.returns-in-depends
returns-in-depends c = rw (first_word c.args.words.now _ _ c.in-depends.len_at_least c.in-depends.is-depends) (DependsRule _ _ c.in_ok-mask_of.ensures)

pub returns-in_err-mask_of : goal.returns-in_err-mask_of
returns-in_err-mask_of c =
    rw (c.from_residual.ensures, first_word c.args.words.now _ _ c.in-depends.len_at_least c.in-depends.is-depends) (no_mask _ _ c.in_err-mask_of.ensures)
