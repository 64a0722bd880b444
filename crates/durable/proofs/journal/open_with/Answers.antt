use Rattle.std.proofs.Common.{◌∙◌, ap, refl}
use Rattle.journal_store.specs.Record.{restored_of}
use Rattle.durable.proofs.JournalLemmas.{opened}
use Rattle.durable.proofs.journal.open_with.Goals as goal

pub invariant_of-result : goal.invariant_of-result
invariant_of-result g c =
    opened c.in_ok-store.store.kept.journal c.in_ok-store.store.kept.left c.in_ok-store.stored.items c.in_ok-entries.entries.items (c.in_ok-entries.ensures ∙ ap restored_of c.deref-2.ensures.value)
    c.in_ok-store.ensures.kept c.in_ok-store.ensures.holds

pub returns-clause-names : goal.returns-clause-names
returns-clause-names g c = refl

pub returns-clause-in_file : goal.returns-clause-in_file
returns-clause-in_file g c = c.in_ok-store.ensures.names
