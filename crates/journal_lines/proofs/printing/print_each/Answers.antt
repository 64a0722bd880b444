use Rattle.std.proofs.Common.{◌<◌, ap, length, subst, ◌∙◌, get_or, arith}
use Rattle.journal_lines.specs.Lines.{IsLine}
use Rattle.journal_lines.proofs.LineLemmas.{all_printed, one_printed}
use Rattle.journal_lines.proofs.printing.print_each.Goals as goal

pub loop-place-preserved : goal.loop-place-preserved
loop-place-preserved g c = λ plain.
    let front = c.args.journal.now.preface in
    let one = c.stored-item.result in
    let line = c.in_ok-print_entry.ensures.line plain in
    let by_names = subst (λ n. IsLine n c.number-number.result one line.0) c.args.journal.now.names line.1 in
    let is_line = subst (λ n. IsLine front.names n one line.0) c.number-number.ensures by_names in
    one_printed front c.args.journal.now.stored.items c.loop-place.place _ _ _ one line.0
    (subst (λ l. c.loop-place.place < length l) c.deref-stored-items.ensures.value c.loop-place-test.true)
    (c.stored-item.is ∙ ap (λ l. get_or l c.loop-place.place one) c.deref-stored-items.ensures.value)
    (c.loop-place.invariant plain) is_line line.2

pub returns-clause-lines : goal.returns-clause-lines
returns-clause-lines g c = λ plain.
    all_printed c.args.journal.now.preface c.args.journal.now.stored.items c.loop-place.place _ _ (omega (arith, c.loop-place-test.false, ap length c.deref-stored-items.ensures.value)) (c.loop-place.invariant plain)
