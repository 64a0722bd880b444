use Rattle.std.proofs.Common.{◌≡◌, ◌∙◌, ap}
use Rattle.durable.specs.Journal.{JournalState}
use Rattle.running.proofs.RunLemmas.{setup_first}
use Rattle.running.proofs.journaled.journal_at.Goals as goal
use Rattle.running.proofs.journaled.journal_at.Goals.{then-is_empty+in_ok-entries+in_default, else-is_empty}

pub begin-requires-clause-first : goal.begin-requires-clause-first
begin-requires-clause-first g c = setup_first c.args.bytes.now c.in_ok-entries.entries.items c.in_ok-entries.ensures.entries

pub returns : goal.returns
returns g c =
    let opened : c.in-Ok.journal.names ≡ c.args.catalogue = c.in-Ok.ensures.names in
    let names : c.if-is_empty.journal.names ≡ c.args.catalogue = elim c.if-is_empty.branch [
      | then-is_empty+in_ok-entries+in_default w ↦ ap (λ (journal : JournalState). journal.names) w.journal-is ∙ (w.begin.ensures.names ∙ opened)
      | else-is_empty w ↦ ap (λ (journal : JournalState). journal.names) w.journal-is ∙ opened
    ] in
    record { names = names }
