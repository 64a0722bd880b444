use Rattle.std.proofs.Common.{◌≡◌, ◌<◌, ◌∙◌, Err, ap, length, rules, subst, sym, take}
use Rattle.record_log.specs.Log.{blocks, texts}
use Rattle.journal_lines.specs.declared.unreadable.Unreadable.TheVariants.{Record}
use Rattle.journal_lines.proofs.PlaceLemmas.{fault_at}
use Rattle.journal_lines.proofs.reading.read_journal.Goals as goal

pub returns-clause-damaged : goal.returns-clause-damaged
returns-clause-damaged c = λ at is.
    let number = c.in-Err-Record.number in
    let found = c.in-Ok.read.0.items in
    let place : c.place_of.result ≡ at = search rules in
    let was : c.journal_of.result ≡ Err (Record number) = c.in-Err-Record.is ∙ ap (λ f. Err f) c.in-Err-Record.field-0-is in
    let less = subst (λ l. number < length l) c.deref.ensures.value (c.journal_of.ensures.inside number was) in
    let is_place = c.place_of.ensures ∙ ap (λ l. length (blocks (texts (take number l)))) c.deref-in-Err-Record.ensures.value in
    fault_at found number c.args.file.now at c.in-Ok.ensures.stands less (sym place ∙ is_place)
