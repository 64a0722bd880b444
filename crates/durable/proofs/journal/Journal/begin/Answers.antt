use Rattle.std.proofs.Common.{◌∙◌, ◌++◌, ap, subst}
use Rattle.desk_core.specs.Left.{HasLeft, LeavesJournal}
use Rattle.durable.specs.Journal.{JournalState}
use Rattle.durable.proofs.JournalLemmas.{begun, left_by, refused}
use Rattle.durable.proofs.journal.Journal.begin.Goals as goal

pub invariant_of-self : goal.invariant_of-self
invariant_of-self g c =
    let was = c.self.inside.entries.items in
    let known = c.self.invariant in
    begun c.self.inside.store.kept.left c.store.new.self.kept.left c.store.new.self.kept.journal was c.args.entries.items
    (ap (λ (journal : JournalState). journal.entries) c.self.view_is ∙ c.requires.new)
    (c.in-Ok.ensures.stored was known.stands ∙ ap (λ more. was ++ more) c.deref.ensures.value) known.holds
    (subst (λ more. HasLeft c.self.inside.store.kept.left c.store.new.self.kept.left was (was ++ more)) c.deref.ensures.value (c.store.ensures.crash was known.stands))
    (subst (λ more. LeavesJournal c.store.new.self.kept.left (was ++ more)) c.deref.ensures.value (c.in-Ok.ensures.durable was known.stands)) c.requires.first

pub invariant_of-self-in-Err : goal.invariant_of-self-in-Err
invariant_of-self-in-Err g c =
    let was = c.self.inside.entries.items in
    let known = c.self.invariant in
    refused c.self.inside.store.kept.left c.store.new.self.kept.left c.store.new.self.kept.journal was c.deref.result.now
    (c.in-Err.ensures.refused was known.stands) known.holds (c.store.ensures.crash was known.stands) known.seats

pub returns-in-Ok-clause-crash : goal.returns-in-Ok-clause-crash
returns-in-Ok-clause-crash g c =
    left_by c.args.self.now.left c.self.inside.store.kept.left c.store.new.self.kept.left c.self.inside.entries.items c.deref.result.now c.args.entries.items
    (ap (λ (journal : JournalState). journal.left) c.self.view_is) (ap (λ (journal : JournalState). journal.entries) c.self.view_is ∙ c.requires.new) c.deref.ensures.value
    (c.store.ensures.crash c.self.inside.entries.items c.self.invariant.stands)

pub returns-in-Err-clause-crash : goal.returns-in-Err-clause-crash
returns-in-Err-clause-crash g c =
    left_by c.args.self.now.left c.self.inside.store.kept.left c.store.new.self.kept.left c.self.inside.entries.items c.deref.result.now c.args.entries.items
    (ap (λ (journal : JournalState). journal.left) c.self.view_is) (ap (λ (journal : JournalState). journal.entries) c.self.view_is ∙ c.requires.new) c.deref.ensures.value
    (c.store.ensures.crash c.self.inside.entries.items c.self.invariant.stands)
