use Rattle.handover.proofs.SignalLemmas.{digits_utf8}
use Rattle.handover.proofs.signals.mask_of.Goals as goal

pub returns-in_default-clause-none : goal.returns-in_default-clause-none
returns-in_default-clause-none c = λ mask is. absurd (c.in_default.ensures.cases.0 (digits_utf8 c.args.word.now is.digits.1))
