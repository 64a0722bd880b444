use Rattle.std.proofs.Common.{rules, ap, ◌∙◌, ◌≡◌, Err}
use Rattle.journal_store.specs.declared.restore_fault.RestoreFault.TheVariants.{Illegal}
use Rattle.journal_store.proofs.restoring.restore.Goals as goal

pub returns-in-Err-clause-illegal : goal.returns-in-Err-clause-illegal
returns-in-Err-clause-illegal g c = λ n is.
    let fault : c.in-Err.fault ≡ Illegal n = search rules in
    let was : c.make_all_again.result ≡ Err (Illegal n) = c.in-Err.is ∙ ap (λ f. Err f) fault in
    c.make_all_again.ensures.illegal n was
