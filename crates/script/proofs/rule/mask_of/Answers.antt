use Rattle.std.proofs.Common.{arith}
use Rattle.script.proofs.MaskLemmas.{no_words, next_word, not_listed}
use Rattle.script.proofs.rule.mask_of.Goals as goal

pub loop-word-init : goal.loop-word-init
loop-word-init c = no_words _

pub loop-word-preserved : goal.loop-word-preserved
loop-word-preserved c =
    next_word _ c.args.words.now _ _ _ _ _ _ (omega arith) c.loop-word.invariant c.name_of.ensures c.in_ok-slot.ensures.value c.number.ensures.value c.number.ensures.range

pub returns-in_err-slot : goal.returns-in_err-slot
returns-in_err-slot c = rw c.from_residual.ensures (not_listed _ c.args.words.now _ _ _ (omega arith) c.name_of.ensures c.in_err-slot.ensures.value)
