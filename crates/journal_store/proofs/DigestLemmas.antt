-- What a digest keeps behind one more entry.
use Rattle.std.proofs.Common.{◌≡◌, ℕ, ◌+◌, Bool, false, Option, None, Some, unwrap_or, List, ◌∷◌, length, slice_index_or, sym, ap, refl, ◌∙◌, arith}
use Rattle.std.specs.Option.{option_or}
use Rattle.desk_core.specs.declared.entry.Entry.{Entry}
use Rattle.desk_core.specs.Desk.{probe_at}
use Rattle.desk_core.specs.Legal.{IsLegal}
use Rattle.desk_core.specs.Past.{last_said}
use Rattle.desk_core.specs.Shut.{says_shut}
use Rattle.journal_store.specs.Digest.{Summary, IsDigest}
use Rattle.journal_store.specs.Next.{probe_next}
use Rattle.journal_store.proofs.ProbeLemmas.{probe_step}

-- what an entry says counts before what older ones say
said_first : (said older : Option Bool) → unwrap_or said (unwrap_or older false) ≡ unwrap_or (option_or said older) false
said_first None older = refl
said_first (Some shut) older = refl

-- one more entry
pub digest_more : (digest new : Summary) (entry : Entry) (history : List Entry) → IsDigest digest history → IsLegal (entry ∷ history)
    → ((i : ℕ) → slice_index_or new.probes i None ≡ probe_next digest.is_shut i entry.call (slice_index_or digest.probes i None))
    → new.is_shut ≡ unwrap_or (says_shut entry.call) digest.is_shut → new.len ≡ length history + 1
    → IsDigest new (entry ∷ history)
digest_more digest new entry history is legal probes shut len = record {
  legal = legal;
  probes = λ i. probes i
      ∙ ap (probe_next digest.is_shut i entry.call) (is.probes i)
      ∙ ap (λ b. probe_next b i entry.call (probe_at history i)) is.shut
      ∙ sym (probe_step entry history i is.legal);
  shut = shut ∙ ap (unwrap_or (says_shut entry.call)) is.shut ∙ said_first (says_shut entry.call) (last_said says_shut history);
  len = omega (arith, len);
}
