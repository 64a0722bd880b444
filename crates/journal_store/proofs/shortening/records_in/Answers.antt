use Rattle.std.proofs.Common.{arith, ◌≡◌, ◌++◌, ◌∷◌, [], ℕ, List, subst}
use Rattle.std.proofs.lemmas.Grind.{common_steps}
use Rattle.record_log.specs.Log.{StandsFor, blocks, texts}
use Rattle.journal_store.proofs.RecordLemmas.{the_records}
use Rattle.journal_store.proofs.shortening.records_in.Goals as goal

pub returns-in-Ok-read_entries : goal.returns-in-Ok-read_entries
returns-in-Ok-read_entries c = λ records is.
    let file = c.push.new.self.items in
    let whole : file ≡ blocks records ++ 0 ∷ [] = grind (arith, common_steps, is) in
    the_records file records (texts c.in-Ok-read_entries.found.items) whole (subst (λ (l : List ℕ). StandsFor l (texts c.in-Ok-read_entries.found.items)) c.deref.ensures.value c.in-Ok-read_entries.ensures.stands)
