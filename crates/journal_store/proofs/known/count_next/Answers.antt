use Rattle.journal_store.proofs.known.count_next.Goals as goal

pub returns-in-Pass : goal.returns-in-Pass
returns-in-Pass c =
    rw (c.in-Threshold.is, c.in-Pass.is) (rw (c.from.ensures, c.from-in-Pass.ensures) at (c.count_passed.ensures c.in-Threshold.field-2))
