use Rattle.handover.proofs.SignalLemmas.{no_mask_in}
use Rattle.handover.proofs.signals.mask_in.Goals as goal

pub returns-clause-none : goal.returns-clause-none
returns-clause-none c =
    no_mask_in c.args.text.now c.args.name.now c.in_ok-line_in.field-0.now (rw c.in_ok-line_in.was at c.line_in.ensures) c.mask_after.result c.mask_after.ensures.none
