use Rattle.std.proofs.Common.{◌∷◌, ◌+◌, [], ap, subst, take, arith, sym, ◌∙◌}
use Rattle.std.proofs.lemmas.List.{map-append}
use Rattle.std.proofs.lemmas.List.Elements.{All-push}
use Rattle.std.proofs.lemmas.Grind.{common_steps}
use Rattle.record_log.specs.Log.{texts}
use Rattle.journal_store.specs.Record.{AreRecords}
use Rattle.journal_store.proofs.RecordLemmas.{one_record}
use Rattle.journal_store.proofs.records.records_of.Goals as goal

pub loop-entry-preserved : goal.loop-entry-preserved
loop-entry-preserved g c =
    let made = c.in_ok-record_of.field-0 in
    let item = c.entry-item.result in
    record {
      of = subst (λ l. AreRecords l (take (c.loop-entry.entry-index + 1) c.args.entries.now)) (sym (ap texts c.in_ok-push.ensures.items ∙ map-append (λ e. e.items) c.loop-entry.batch.items (made ∷ [])))
          (one_record (texts c.loop-entry.batch.items) c.args.entries.now c.loop-entry.entry-index made.items item c.loop-entry-test.true c.entry-item.is c.loop-entry.invariant.of c.in_ok-record_of.ensures.of);
      short = grind (arith, common_steps, All-push, c.in_ok-push.ensures.items, c.loop-entry.invariant.short, c.in_ok-record_of.ensures.short);
      as_many = grind (arith, common_steps);
    }
