use Rattle.std.proofs.Common.{◌≡◌, ◌∙◌, List, ℕ, ap, arith, subst}
use Rattle.std.proofs.lemmas.Grind.{common_steps}
use Rattle.record_log.specs.Log.{IsReady, StandsFor, texts}
use Rattle.record_log.specs.MemoryView.{memory_bytes, memory_may_leave}
use Rattle.journal_store.proofs.RecordLemmas.{the_records}
use Rattle.library_tests.proofs.journals.spare.log_over.Goals as goal

pub returns-in-Ok : goal.returns-in-Ok
returns-in-Ok c = λ records is.
    let file = c.args.file.now in
    let found = texts c.in-Ok.field-0.items in
    let copied : c.in_ok-to_vec.field-0.items ≡ file = grind (arith, common_steps) in
    let bytes : memory_bytes c.new-log.result.device ≡ file = ap memory_bytes c.new-log.ensures ∙ c.in_ok-new.ensures ∙ copied in
    let stands : StandsFor file found = subst (λ (l : List ℕ). StandsFor l found) bytes c.in-Ok.ensures.stands in
    subst (λ (l : List (List ℕ)). IsReady memory_bytes memory_may_leave c.open.new.self l) (the_records file records found is stands) c.in-Ok.ensures.ready
