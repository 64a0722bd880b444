use Rattle.std.proofs.Common.{rules, ◌≡◌, Ok, false, subst}
use Rattle.journal_store.specs.Record.{restored_of}
use Rattle.journal_store.specs.Restored.{IsIllegalAt}
use Rattle.journal_store.proofs.RestoreLemmas.{illegal_at}
use Rattle.journal_store.proofs.restoring.make_all_again.Goals as goal

pub returns-then-not-branch-clause-illegal : goal.returns-then-not-branch-clause-illegal
returns-then-not-branch-clause-illegal g c = λ n is.
    let known = c.loop-number.invariant in
    let no : c.make_again.result ≡ Ok false = search rules in
    let at : c.loop-number.number ≡ n = search rules in
    subst (IsIllegalAt (restored_of c.args.stored.now)) at
    (illegal_at c.args.stored.now c.loop-number.number c.index-stored-number.result c.loop-number.desk.journal c.loop-number-test.true c.index-stored-number.is known.journal known.legal (c.make_again.ensures.illegal no))
