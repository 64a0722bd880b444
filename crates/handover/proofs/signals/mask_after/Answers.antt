use Rattle.handover.proofs.SignalLemmas.{after_name, no_name, mask_by, no_mask_by}
use Rattle.handover.proofs.signals.mask_after.Goals as goal

pub returns-in_err-strip_prefix-clause-none : goal.returns-in_err-strip_prefix-clause-none
returns-in_err-strip_prefix-clause-none c =
    rw c.from_residual.ensures (no_name c.args.name.now c.args.line.now c.strip_prefix.result c.strip_prefix.ensures.cases c.in_err-strip_prefix.was)

pub returns-clause-some : goal.returns-clause-some
returns-clause-some c =
    let word = c.in_ok-strip_prefix.field-0 in
    let parts = after_name c.args.name.now c.args.line.now c.strip_prefix.result word c.strip_prefix.ensures.cases c.in_ok-strip_prefix.was in
    mask_by c.args.name.now c.args.line.now word.now parts c.mask_of.result c.mask_of.ensures.some

pub returns-clause-none : goal.returns-clause-none
returns-clause-none c =
    let word = c.in_ok-strip_prefix.field-0 in
    let parts = after_name c.args.name.now c.args.line.now c.strip_prefix.result word c.strip_prefix.ensures.cases c.in_ok-strip_prefix.was in
    no_mask_by c.args.name.now c.args.line.now word.now parts c.mask_of.result c.mask_of.ensures.none
