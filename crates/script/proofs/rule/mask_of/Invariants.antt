use Rattle.std.proofs.Common.{take}
use Rattle.script.specs.Line.{IsMaskOf}
use Rattle.script.specs.TextLines.{texts}
use Rattle.script.proofs.rule.mask_of.Given as goal

abbrev pub invariant-loop-word : goal.invariant-loop-word
invariant-loop-word l = IsMaskOf l.catalogue (texts (take l.word-index l.words)) l.mask
