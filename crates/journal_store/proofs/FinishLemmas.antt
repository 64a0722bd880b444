-- What the short history of a digest has in common with the one that the digest is of.
use Rattle.std.proofs.Common.{◌≡◌, ℕ, ◌*◌, ◌+◌, ◌<◌, ◌≤◌, true, false, Option, None, Some, List, ◌∷◌, length, slice_index_or, All, refl, sym, subst, ◌∙◌, inl, inr, ◌⊎◌, arith}
use Rattle.std.specs.Option.{option_map}
use Rattle.std.proofs.lemmas.Bool.{cases_lt}
use Rattle.probe_core.specs.declared.rule.Rule.{Rule}
use Rattle.probe_core.specs.Events.{memory_after}
use Rattle.desk_core.specs.declared.call.Call.TheVariants.{Shutdown}
use Rattle.desk_core.specs.declared.entry.Entry.{Entry}
use Rattle.desk_core.specs.Present.{rule_at}
use Rattle.desk_core.specs.Heard.{heard}
use Rattle.desk_core.specs.Legal.{IsLegal}
use Rattle.desk_core.specs.Desk.{probe_at}
use Rattle.desk_core.proofs.LawfulLemmas.{lawful_rule}
use Rattle.journal_store.specs.Alike.{AreAlike}
use Rattle.journal_store.specs.Digest.{Summary, IsDigest}
use Rattle.journal_store.specs.Short.{AllCanStand, CanStand, IsMade, done}
use Rattle.journal_store.proofs.AlikeLemmas.{heard_fits}
use Rattle.journal_store.proofs.FewestLemmas.{naming_within, naming_shut}
use Rattle.journal_store.proofs.ShortLemmas.{seat_first}

-- each probe of a digest can stand at its slot
pub digest_stands : (digest : Summary) (history : List Entry) → IsDigest digest history → AllCanStand digest.probes
digest_stands digest history is i probe there = by_rule (rule_at history i) refl (sym (is.probes i) ∙ there)
  where
    by_rule : (o : Option Rule) → rule_at history i ≡ o → option_map (λ rule. (rule, memory_after rule (heard history i rule))) o ≡ Some probe → CanStand i probe
    by_rule None ruled said = let none : None ≡ Some probe = said in cc
    by_rule (Some rule) ruled said =
        let same : (rule, memory_after rule (heard history i rule)) ≡ probe = (let both : Some (rule, memory_after rule (heard history i rule)) ≡ Some probe = said in cc) in
        let P : Rule × ℕ → Type 0 = λ p. CanStand i p in
        subst P same (record {
          lawful = lawful_rule history i rule is.legal ruled;
          memory = record { events = heard history i rule; fit = heard_fits history i rule; is = refl };
        })

-- a short history comes to the same as the history of the digest
pub record ComesTo (history short : List Entry) : Type 0 where
  pub legal : IsLegal short
  pub alike : AreAlike short history
  pub seats : All (λ entry. entry.seat ≡ 0) short
  pub few : length short ≤ 16 * 2001 + 1
  pub fewest : (other : List Entry) → AreAlike other history → length short ≤ length other

made_probes : (digest : Summary) (history short : List Entry) → IsDigest digest history → IsMade digest.probes 16 short
    → ((i : ℕ) → 16 ≤ i → slice_index_or digest.probes i None ≡ None) → (i : ℕ) → probe_at short i ≡ probe_at history i
made_probes digest history short is made none i = by_place (cases_lt i 16)
  where
    by_place : (i < 16) ⊎ (16 ≤ i) → probe_at short i ≡ probe_at history i
    by_place (inl below) = made.made i below ∙ is.probes i
    by_place (inr past) = made.rest i past ∙ sym (none i past) ∙ is.probes i

-- while it is not shut down
pub comes_running : (digest : Summary) (history short : List Entry) → IsDigest digest history → IsMade digest.probes 16 short
    → ((i : ℕ) → 16 ≤ i → slice_index_or digest.probes i None ≡ None) → digest.is_shut ≡ false → ComesTo history short
comes_running digest history short is made none running = record {
  legal = made.legal;
  alike = record { probes = made_probes digest history short is made none; shut = made.running ∙ sym running ∙ is.shut };
  seats = made.seats;
  few = omega (arith, made.few);
  fewest = λ other alike. omega (arith, made.fewest other (λ i below. alike.probes i ∙ sym (is.probes i)), naming_within 16 other);
}

-- while it is shut down
pub comes_shut : (digest : Summary) (history short all : List Entry) → IsDigest digest history → IsMade digest.probes 16 short
    → ((i : ℕ) → 16 ≤ i → slice_index_or digest.probes i None ≡ None) → digest.is_shut ≡ true → all ≡ done Shutdown ∷ short → ComesTo history all
comes_shut digest history short all is made none shut ends =
    let P : List Entry → Type 0 = λ entries. ComesTo history entries in
    subst P (sym ends) (record {
      legal = (made.legal, refl, tt);
      alike = record { probes = made_probes digest history short is made none; shut = sym shut ∙ is.shut };
      seats = seat_first Shutdown short made.seats;
      few = omega (arith, made.few);
      fewest = λ other alike. omega (
        arith,
        made.fewest other (λ i below. alike.probes i ∙ sym (is.probes i)),
        naming_shut 16 other (alike.shut ∙ sym is.shut ∙ shut),
      );
    })
