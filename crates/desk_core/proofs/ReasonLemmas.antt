-- The first slot of a mask that is not serving, and that a reason tells the status.
use Rattle.std.proofs.Common.{◌≡◌, ℕ, zero, suc, ◌+◌, ◌-◌, ◌<◌, ◌≤◌, ◌&&◌, ◌||◌, not, Bool, true, false, if◌then◌else◌, Option, None, Some, List, refl, sym, ap, add-one, ◌∙◌, arith}
use Rattle.std.specs.Option.{option_or}
use Rattle.health_wire.specs.declared.serving.Serving.{Serving}
use Rattle.desk_core.specs.declared.entry.Entry.{Entry}
use Rattle.desk_core.specs.declared.reason.Reason.TheVariants.{ShutDown}
use Rattle.health_wire.specs.declared.serving.Serving.TheVariants.{Unknown, NotServing}
use Rattle.probe_core.specs.declared.rule.Rule.{Rule}
use Rattle.probe_core.specs.declared.rule.Rule.TheVariants.{Threshold, Manual, Depends}
use Rattle.probe_core.specs.Events.{is_unknown, is_up}
use Rattle.probe_core.specs.Rule.{relied_on}
use Rattle.desk_core.specs.Heard.{heard}
use Rattle.desk_core.specs.Board.{packed, status_in}
use Rattle.desk_core.specs.Present.{rule_at}
use Rattle.desk_core.specs.Reason.{absent_by, depends_by, down_by, first_down, if_down, named, newest, not_serving_by, reason_at, reason_by, retires, shuts, status_by_reason}
use Rattle.desk_core.specs.Shut.{is_shut}
use Rattle.desk_core.specs.Status.{all_serving, has_slot, is_serving, opinion, serving_if, status_at, status_by}
use Rattle.desk_core.proofs.DeskLemmas.{read_status}

pub first_down-none : (statuses : ℕ → Option Serving) (mask : ℕ) → first_down statuses mask 0 ≡ None
unfolding first_down
first_down-none statuses mask = refl

pub first_down-more : (statuses : ℕ → Option Serving) (mask n : ℕ) → first_down statuses mask (n + 1) ≡ option_or (first_down statuses mask n) (if_down statuses mask n)
unfolding first_down
first_down-more statuses mask n = rw add-one refl

-- it is the same where the statuses of the slots before are
pub first_down-same : (f g : ℕ → Option Serving) (mask n : ℕ) → ((i : ℕ) → i < n → f i ≡ g i) → first_down f mask n ≡ first_down g mask n
unfolding first_down
first_down-same f g mask zero same = refl
first_down-same f g mask (suc n) same =
    ap (λ o. option_or o (if_down f mask n)) (first_down-same f g mask n (λ i below. same i (omega (arith, below))))
    ∙ ap (λ status. option_or (first_down g mask n) (if not (has_slot mask n) || is_serving status then None else Some n)) (same n (omega arith))

-- the first slot that is not serving, by a word of the statuses
pub depends_so : (entries : List Entry) (word mask : ℕ) (first : Option ℕ) → word ≡ packed (status_at entries) 16 → first ≡ first_down (status_in word) mask 16
    → depends_by first ≡ depends_by (first_down (status_at entries) mask 16)
depends_so entries word mask first word_is first_is =
    ap depends_by (first_is ∙ first_down-same (status_in word) (status_at entries) mask 16 (λ j below. read_status entries word j word_is below))

-- one of two
or_some : (first : Option ℕ) (n : ℕ) → (j : ℕ) × (option_or first (Some n) ≡ Some j)
or_some None n = (n, refl)
or_some (Some j) n = (j, refl)

-- where not all slots of a mask are serving, one of them is not
down_there : (entries : List Entry) (mask n : ℕ) → all_serving entries n mask ≡ false → (j : ℕ) × (first_down (status_at entries) mask n ≡ Some j)
unfolding all_serving first_down
down_there entries mask zero never = let no : true ≡ false = never in absurd (cc)
down_there entries mask (suc n) not_all = by_older (all_serving entries n mask) refl (down_there entries mask n)
  where
    by_this : (b : Bool) → (not (has_slot mask n) || is_serving (status_at entries n)) ≡ b → b ≡ false
        → (j : ℕ) × (option_or (first_down (status_at entries) mask n) (if_down (status_at entries) mask n) ≡ Some j)
    by_this true is no' = absurd (cc)
    by_this false is no' =
        let here : if_down (status_at entries) mask n ≡ Some n = ap (λ c. if c then None else Some n) is in
        let found = or_some (first_down (status_at entries) mask n) n in
        (found.0, ap (option_or (first_down (status_at entries) mask n)) here ∙ found.1)

    by_older : (b : Bool) → all_serving entries n mask ≡ b → (all_serving entries n mask ≡ false → (j : ℕ) × (first_down (status_at entries) mask n ≡ Some j))
        → (j : ℕ) × (option_or (first_down (status_at entries) mask n) (if_down (status_at entries) mask n) ≡ Some j)
    by_older true is older =
        by_this (not (has_slot mask n) || is_serving (status_at entries n)) refl
        (sym (ap (λ c. c && (not (has_slot mask n) || is_serving (status_at entries n))) is) ∙ not_all)
    by_older false is older = let found = older is in (found.0, ap (λ o. option_or o (if_down (status_at entries) mask n)) found.1)

-- and so it is among more slots
more_down : (f : ℕ → Option Serving) (mask n k j : ℕ) → first_down f mask n ≡ Some j → first_down f mask (n + k) ≡ Some j
more_down f mask n zero j is = ap (first_down f mask) (omega arith) ∙ is
more_down f mask n (suc k) j is =
    ap (first_down f mask) (omega arith) ∙ first_down-more f mask (n + k) ∙ ap (λ o. option_or o (if_down f mask (n + k))) (more_down f mask n k j is)

absent_tells : (kept : Option ℕ) (entries : List Entry) (place : Option ℕ) → status_by_reason (absent_by kept entries place) ≡ None
absent_tells kept entries None = refl
absent_tells kept entries (Some place) = refl

-- the reason for a status is one for this status
pub reason_tells : (kept : Option ℕ) (entries : List Entry) (i : ℕ) → i ≤ 16 → status_by_reason (reason_at kept entries i) ≡ status_at entries i
reason_tells kept entries i few = by_rule (rule_at entries i) refl
  where
    covers : ℕ → Bool
    covers = all_serving entries i

    down_tells : (rule : Rule) → (is_up rule (heard entries i rule) && covers (relied_on rule)) ≡ false → status_by_reason (down_by kept entries i rule) ≡ Some NotServing
    down_tells (Threshold fall rise start) is = refl
    down_tells Manual is = refl
    down_tells (Depends mask) is =
        let found = down_there entries mask i is in
        let far : first_down (status_at entries) mask 16 ≡ Some found.0 =
        ap (first_down (status_at entries) mask) (omega (arith, few)) ∙ more_down (status_at entries) mask i (16 - i) found.0 found.1 in
        ap (λ o. status_by_reason (depends_by o)) far

    by_serving : (rule : Rule) → rule_at entries i ≡ Some rule → is_shut entries ≡ false → (b : Bool) → (is_up rule (heard entries i rule) && covers (relied_on rule)) ≡ b
        → status_by_reason (reason_by kept entries i (Some (serving_if b))) ≡ Some (serving_if b)
    by_serving rule at not_shut true is = refl
    by_serving rule at not_shut false is =
        ap (λ o. status_by_reason (not_serving_by kept entries i o)) at
        ∙ ap (λ b. status_by_reason (if b then ShutDown (named kept entries (newest shuts entries)) else down_by kept entries i rule)) not_shut
        ∙ down_tells rule is

    by_unknown : (rule : Rule) → rule_at entries i ≡ Some rule → is_shut entries ≡ false → (unknown : Bool)
        → status_by_reason (reason_by kept entries i (Some (if unknown then Unknown else serving_if (is_up rule (heard entries i rule) && covers (relied_on rule)))))
        ≡ Some (if unknown then Unknown else serving_if (is_up rule (heard entries i rule) && covers (relied_on rule)))
    by_unknown rule at not_shut true = refl
    by_unknown rule at not_shut false = by_serving rule at not_shut (is_up rule (heard entries i rule) && covers (relied_on rule)) refl

    by_shut : (rule : Rule) → rule_at entries i ≡ Some rule → (shut : Bool) → is_shut entries ≡ shut
        → status_by_reason (reason_by kept entries i (Some (if shut then NotServing else opinion covers (heard entries i rule) rule)))
        ≡ Some (if shut then NotServing else opinion covers (heard entries i rule) rule)
    by_shut rule at true is =
        ap (λ o. status_by_reason (not_serving_by kept entries i o)) at
        ∙ ap (λ b. status_by_reason (if b then ShutDown (named kept entries (newest shuts entries)) else down_by kept entries i rule)) is
    by_shut rule at false is = by_unknown rule at is (is_unknown rule (heard entries i rule))

    by_rule : (o : Option Rule) → rule_at entries i ≡ o → status_by_reason (reason_by kept entries i (status_by covers entries i o)) ≡ status_by covers entries i o
    by_rule None at = absent_tells kept entries (newest (retires i) entries)
    by_rule (Some rule) at = by_shut rule at (is_shut entries) refl
