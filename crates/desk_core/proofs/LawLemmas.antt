use Rattle.std.proofs.Common.{◌≡◌, ℕ, zero, suc, ◌<◌, ◌^◌, ◌&&◌, ◌||◌, ◌↔◌, not, if◌then◌else◌, Some, Bool, true, false, List, [], ◌∷◌, ◌++◌, refl, sym, ap, subst, ◌∙◌, inl, inr, arith}
use Rattle.std.proofs.lemmas.Bool.{cases_lt}
use Rattle.std.proofs.lemmas.List.{reverse-append}
use Rattle.desk_core.specs.declared.entry.Entry.{Entry}
use Rattle.desk_core.specs.Past.{past}
use Rattle.std.proofs.Math.Nat.{pow-le-pow_right}
use Rattle.health_wire.specs.declared.serving.Serving.TheVariants.{Unknown, NotServing, Serving as IsServing}
use Rattle.probe_core.specs.declared.rule.Rule.{Rule}
use Rattle.probe_core.specs.declared.rule.Rule.TheVariants.{Depends}
use Rattle.probe_core.specs.Events.{is_unknown, is_up}
use Rattle.probe_core.specs.Rule.{relied_on}
use Rattle.desk_core.specs.Heard.{heard}
use Rattle.desk_core.specs.Shut.{is_shut}
use Rattle.desk_core.specs.Present.{rule_at}
use Rattle.desk_core.specs.Reply.{reply_to}
use Rattle.desk_core.specs.Status.{all_serving, status_by, status_at, has_slot, is_serving, serving_if, AllServe}
use Rattle.desk_core.proofs.HistoryLemmas.{past_more}
use Rattle.desk_core.proofs.SlotLemmas.{covers-nothing}
use Rattle.desk_core.proofs.StatusLemmas.{all_serving-covers, and_true, no_slot_above}
use Rattle.desk_core.proofs.LawfulLemmas.{lawful_rule, relied_below}
use Rattle.desk_core.specs.Legal.{IsLegal, IsLawfulCall}

-- each slot of the mask is serving, of the slots below the n-th
abbrev AreServing : List Entry → ℕ → ℕ → Type 0
AreServing entries n mask = (i : ℕ) → i < n → has_slot mask i ≡ true → is_serving (status_at entries i) ≡ true

both_true : (a b : Bool) → (a && b) ≡ true → (a ≡ true) × (b ≡ true)
both_true true b is = (refl, is)
both_true false b is = (is, cc)

asked : (has serves : Bool) → (not has || serves) ≡ true → has ≡ true → serves ≡ true
asked true serves is in_mask = is
asked false serves is in_mask = cc

answered : (has serves : Bool) → (has ≡ true → serves ≡ true) → (not has || serves) ≡ true
answered true serves gives = gives refl
answered false serves gives = refl

all_asked : (entries : List Entry) (n mask : ℕ) → all_serving entries n mask ≡ true → AreServing entries n mask
unfolding all_serving
all_asked entries zero mask is i below = absurd (omega arith)
all_asked entries (suc n) mask is i below =
    let both = both_true (all_serving entries n mask) (not (has_slot mask n) || is_serving (status_at entries n)) is in
    elim (cases_lt i n) [
      | inl before ↦ all_asked entries n mask both.0 i before
      | inr past_it ↦
          let same : n ≡ i = omega arith in
          let P : ℕ → Type 0 = λ k. has_slot mask k ≡ true → is_serving (status_at entries k) ≡ true in
          subst P same (asked (has_slot mask n) (is_serving (status_at entries n)) both.1)
    ]

all_answered : (entries : List Entry) (n mask : ℕ) → AreServing entries n mask → all_serving entries n mask ≡ true
unfolding all_serving
all_answered entries zero mask are = refl
all_answered entries (suc n) mask are =
    rw (all_answered entries n mask (λ i below. are i (omega arith)), answered (has_slot mask n) (is_serving (status_at entries n)) (are n (omega arith))) refl

-- of a legal history a mask has no slot at its own place or above it
serves_below : (entries : List Entry) (i mask : ℕ) → mask < 2 ^ i → AreServing entries i mask → AllServe entries mask
serves_below entries i mask small are j in_mask =
    elim (cases_lt j i) [
      | inl below ↦ are j below in_mask
      | inr above ↦
          let none : has_slot mask j ≡ false = no_slot_above mask j (omega (arith, pow-le-pow_right {n = 2} (omega arith) {i = i} {j = j} above)) in
          cc
    ]

pub depends_on : (entries : List Entry) (i mask : ℕ) → IsLegal entries → rule_at entries i ≡ Some (Depends mask) → is_shut entries ≡ false
    → ((status_at entries i ≡ Some IsServing) ↔ AllServe entries mask)
depends_on entries i mask legal rule resumed =
    let status : status_at entries i ≡ Some (serving_if (all_serving entries i mask)) = ap (status_by (all_serving entries i) entries i) rule
    ∙ ap (λ b. Some (if b then NotServing else serving_if (all_serving entries i mask))) resumed in
    let small : mask < 2 ^ i = relied_below i (Depends mask) (lawful_rule entries i (Depends mask) legal rule) in (
      λ serving. serves_below entries i mask small (all_asked entries i mask (up (all_serving entries i mask) (sym status ∙ serving))),
      λ all. status ∙ ap (λ b. Some (serving_if b)) (all_answered entries i mask (λ j below. all j)),
    )
  where
    up : (b : Bool) → Some (serving_if b) ≡ Some IsServing → b ≡ true
    up true is = refl
    up false is = cc

-- a rule that relies on no slot leaves the status to the events
pub by_events : (entries : List Entry) (i : ℕ) (rule : Rule) → rule_at entries i ≡ Some rule → relied_on rule ≡ 0 → is_shut entries ≡ false
    → status_at entries i ≡ Some (if is_unknown rule (heard entries i rule) then Unknown else serving_if (is_up rule (heard entries i rule)))
by_events entries i rule is none resumed =
    let up = is_up rule (heard entries i rule) in
    let unknown = is_unknown rule (heard entries i rule) in
    let covered : all_serving entries i (relied_on rule) ≡ true = ap (all_serving entries i) none ∙ all_serving-covers entries i 0 ∙ covers-nothing (status_at entries) i in
    ap (status_by (all_serving entries i) entries i) is
    ∙ ap (λ b. Some (if b then NotServing else (if unknown then Unknown else serving_if (up && all_serving entries i (relied_on rule))))) resumed
    ∙ ap (λ b. Some (if unknown then Unknown else serving_if (up && b))) covered
    ∙ ap (λ b. Some (if unknown then Unknown else serving_if b)) (and_true up)

pub legal_grown : (journal : List Entry) (entry : Entry) → IsLegal (past journal) → entry.reply ≡ reply_to (past journal) entry.call → IsLawfulCall entry.call → IsLegal (past (journal ++ entry ∷ []))
legal_grown journal entry legal reply lawful =
    let P : List Entry → Type 0 = λ entries. IsLegal entries in
    subst P (sym (past_more journal entry)) (legal, reply, lawful)

legal_older : (newer older : List Entry) → IsLegal (newer ++ older) → IsLegal older
legal_older [] older legal = legal
legal_older (entry ∷ newer) older legal = legal_older newer older legal.0

pub legal_front : (journal more : List Entry) → IsLegal (past (journal ++ more)) → IsLegal (past journal)
legal_front journal more legal =
    let P : List Entry → Type 0 = λ entries. IsLegal entries in
    legal_older (past more) (past journal) (subst P (reverse-append journal more) legal)
