use Rattle.std.proofs.Common.{◌≡◌, ℕ, zero, suc, ◌+◌, ◌-◌, ◌^◌, ◌<◌, ◌&&◌, ◌||◌, not, if◌then◌else◌, Bool, true, false, Option, None, Some, List, []}
use Rattle.std.proofs.Common.{◌∷◌, get_or, inl, inr, ◌⊎◌, ◌≤◌, refl, sym, ap, ◌∙◌, arith}
use Rattle.std.specs.Option.{option_map}
use Rattle.std.proofs.Math.Nat.{div-eq_of_lt}
use Rattle.std.proofs.lemmas.Bool.{cases_lt}
use Rattle.health_wire.specs.declared.serving.Serving.{Serving}
use Rattle.health_wire.specs.declared.serving.Serving.TheVariants.{Unknown, NotServing}
use Rattle.probe_core.specs.declared.event.Event.{Event}
use Rattle.probe_core.specs.declared.rule.Rule.{Rule}
use Rattle.probe_core.specs.Rule.{fits, is_unknown_at, is_up_at, relied_on, HasCounts}
use Rattle.probe_core.specs.Events.{all_fit, is_unknown, is_up, memory_after}
use Rattle.desk_core.specs.declared.entry.Entry.{Entry}
use Rattle.desk_core.specs.Shut.{is_shut}
use Rattle.desk_core.specs.Past.{past}
use Rattle.desk_core.specs.Present.{rule_at}
use Rattle.desk_core.specs.Heard.{heard, with_event, forgets, event_for}
use Rattle.desk_core.specs.Status.{status_by, status_at, all_serving, has_slot, is_serving, serving_if, opinion}
use Rattle.desk_core.specs.Legal.{IsLegal}
use Rattle.desk_core.specs.Board.{packed, status_in}
use Rattle.desk_core.specs.Slots.{covers_below, opinion_at, status_from, with_status}
use Rattle.desk_core.specs.Desk.{Keeps, probe_at}
use Rattle.desk_core.proofs.HistoryLemmas.{state_of}
use Rattle.desk_core.proofs.LawfulLemmas.{lawful_rule, relied_below, rule_counts}
use Rattle.desk_core.proofs.BoardLemmas.{IsKept, read_same, read_other}

-- every slot of a mask below the n-th is serving where their statuses say so
pub all_serving-covers : (entries : List Entry) (n mask : ℕ) → all_serving entries n mask ≡ covers_below (status_at entries) n mask
unfolding all_serving covers_below
all_serving-covers entries zero mask = refl
all_serving-covers entries (suc n) mask = ap (λ b. b && (not (has_slot mask n) || is_serving (status_at entries n))) (all_serving-covers entries n mask)

-- the same statuses cover the same masks
covers_same : (f g : ℕ → Option Serving) (n mask : ℕ) → ((i : ℕ) → i < n → f i ≡ g i) → covers_below f n mask ≡ covers_below g n mask
unfolding covers_below
covers_same f g zero mask same = refl
covers_same f g (suc n) mask same =
    ap (λ b. b && (not (has_slot mask n) || is_serving (f n))) (covers_same f g n mask (λ i below. same i (omega arith)))
    ∙ ap (λ o. covers_below g n mask && (not (has_slot mask n) || is_serving o)) (same n (omega arith))

pow_more : (n more mask : ℕ) → mask < 2 ^ n → mask < 2 ^ (n + more)
pow_more n zero mask small = let same : n + zero ≡ n = omega arith in rw same small
pow_more n (suc more) mask small =
    let next : n + suc more ≡ suc (n + more) = omega arith in
    let rest = pow_more n more mask small in
    rw next (omega (arith, rest))

-- a mask has no slot that is too high for its number
pub no_slot_above : (mask n : ℕ) → mask < 2 ^ n → has_slot mask n ≡ false
no_slot_above mask n small = rw (div-eq_of_lt small) refl

pub and_true : (b : Bool) → (b && true) ≡ b
and_true true = refl
and_true false = refl

-- the slots above a mask's own do not count
covers_short : (f : ℕ → Option Serving) (n more mask : ℕ) → mask < 2 ^ n → covers_below f (n + more) mask ≡ covers_below f n mask
unfolding covers_below
covers_short f n zero mask small = let same : n + zero ≡ n = omega arith in rw same refl
covers_short f n (suc more) mask small =
    let next : n + suc more ≡ suc (n + more) = omega arith in
    let clear : has_slot mask (n + more) ≡ false = no_slot_above mask (n + more) (pow_more n more mask small) in
    rw next (rw clear (and_true (covers_below f (n + more) mask) ∙ covers_short f n more mask small))

-- one more event keeps what was heard to what fits
fits_more : (rule : Rule) (events : List Event) (event : Event) (fit shut : Bool) → all_fit rule events ≡ true → fits rule event ≡ fit
    → all_fit rule (if not shut && fit then event ∷ events else events) ≡ true
fits_more rule events event true true until is = until
fits_more rule events event true false until is = ap (λ b. b && all_fit rule events) is ∙ until
fits_more rule events event false true until is = until
fits_more rule events event false false until is = until

fits_with : (rule : Rule) (events : List Event) (b : Bool) (event : Option Event) (shut : Bool) → all_fit rule events ≡ true → all_fit rule (if b then [] else with_event rule shut event events) ≡ true
fits_with rule events true event shut until = refl
fits_with rule events false None shut until = until
fits_with rule events false (Some event) shut until = fits_more rule events event (fits rule event) shut until refl

-- what was heard fits
heard_fits : (entries : List Entry) (i : ℕ) (rule : Rule) → all_fit rule (heard entries i rule) ≡ true
heard_fits [] i rule = refl
heard_fits (entry ∷ older) i rule = fits_with rule (heard older i rule) (forgets i entry.call) (event_for i entry.call) (is_shut older) (heard_fits older i rule)

-- what the memory of a lawful rule tells of the events: whether the service is up, and whether it is unknown
pub record Tells : Type 0 where
  pub up : (rule : Rule) (events : List Event) → HasCounts rule → all_fit rule events ≡ true
      → is_up_at rule (memory_after rule events) ≡ (is_up rule events && not (is_unknown rule events))
  pub unknown : (rule : Rule) (events : List Event) → HasCounts rule → all_fit rule events ≡ true
      → is_unknown_at rule (memory_after rule events) ≡ is_unknown rule events

same_opinion : (unknown up covered : Bool) → (if unknown then Unknown else serving_if ((up && not unknown) && covered)) ≡ (if unknown then Unknown else serving_if (up && covered))
same_opinion true up covered = refl
same_opinion false true covered = refl
same_opinion false false covered = refl

-- the probe of a slot gives its status, by the statuses of the slots before it
pub status_of_probe : Tells
    → (entries : List Entry) (i : ℕ) (below : ℕ → Option Serving) → IsLegal entries → i < 16 → ((j : ℕ) → j < i → below j ≡ status_at entries j)
    → option_map (status_from (covers_below below 16) (is_shut entries)) (probe_at entries i) ≡ status_at entries i
status_of_probe tells entries i below legal in_range known = by_rule (rule_at entries i) refl
  where
    covered : (mask : ℕ) → mask < 2 ^ i → covers_below below 16 mask ≡ all_serving entries i mask
    covered mask small =
        let whole : i + (16 - i) ≡ 16 = omega arith in
        ap (λ n. covers_below below n mask) (sym whole)
        ∙ covers_short below i (16 - i) mask small
        ∙ covers_same below (status_at entries) i mask known
        ∙ sym (all_serving-covers entries i mask)

    opinion_of : (rule : Rule) → rule_at entries i ≡ Some rule → opinion_at (covers_below below 16) rule (memory_after rule (heard entries i rule))
        ≡ opinion (all_serving entries i) (heard entries i rule) rule
    opinion_of rule is =
        let events = heard entries i rule in
        let covers = covers_below below 16 (relied_on rule) in
        let counts = rule_counts entries i rule legal is in
        let fit = heard_fits entries i rule in
        ap (λ b. if b then Unknown else serving_if (is_up_at rule (memory_after rule events) && covers)) (tells.unknown rule events counts fit)
        ∙ ap (λ b. if is_unknown rule events then Unknown else serving_if (b && covers)) (tells.up rule events counts fit)
        ∙ same_opinion (is_unknown rule events) (is_up rule events) covers
        ∙ ap (λ b. if is_unknown rule events then Unknown else serving_if (is_up rule events && b)) (covered (relied_on rule) (relied_below i rule (lawful_rule entries i rule legal is)))

    by_rule : (o : Option Rule) → rule_at entries i ≡ o
        → option_map (status_from (covers_below below 16) (is_shut entries)) (option_map (λ rule. state_of rule (heard entries i rule)) o)
        ≡ status_by (all_serving entries i) entries i o
    by_rule None is = refl
    by_rule (Some rule) is = ap (λ status. Some (if is_shut entries then NotServing else status)) (opinion_of rule is)

-- the parts of a desk give the status that its journal gives
pub status_of_parts : Tells
    → (slots : List (Option (Rule × ℕ))) (shut : Bool) (journal : List Entry) (max_entries slot : ℕ) (below : ℕ → Option Serving) (status : Option Serving)
    → Keeps slots shut journal max_entries → slot < 16 → ((j : ℕ) → j < slot → below j ≡ status_at (past journal) j)
    → status ≡ option_map (status_from (covers_below below 16) shut) (get_or slots slot None)
    → status ≡ status_at (past journal) slot
status_of_parts tells slots shut journal max_entries slot below status keeps in_range known is =
    is
    ∙ ap (option_map (status_from (covers_below below 16) shut)) (keeps.each slot in_range)
    ∙ ap (λ b. option_map (status_from (covers_below below 16) b) (probe_at (past journal) slot)) keeps.shut_is
    ∙ status_of_probe tells (past journal) slot below keeps.legal in_range known

-- what a probe gives can stand in a word
pub kept_from : (covers : ℕ → Bool) (shut : Bool) (o : Option (Rule × ℕ)) → IsKept (option_map (status_from covers shut) o)
kept_from covers shut None = refl
kept_from covers true (Some state) = refl
kept_from covers false (Some state) = by_opinion (is_unknown_at state.0 state.1) (is_up_at state.0 state.1 && covers (relied_on state.0))
  where
    by_opinion : (unknown up : Bool) → IsKept (Some (if unknown then Unknown else serving_if up))
    by_opinion true up = refl
    by_opinion false true = refl
    by_opinion false false = refl

-- statuses known below a slot, and that of the slot
pub known_more : (old new n : ℕ) (status : Option Serving) (wanted : ℕ → Option Serving) → n < 16 → IsKept status
    → new ≡ packed (with_status (status_in old) n status) 16 → ((i : ℕ) → i < n → status_in old i ≡ wanted i) → status ≡ wanted n
    → (i : ℕ) → i < n + 1 → status_in new i ≡ wanted i
known_more old new n status wanted few kept set known is i below = by_place (cases_lt i n)
  where
    by_place : (i < n) ⊎ (n ≤ i) → status_in new i ≡ wanted i
    by_place (inl before) = read_other old new n i status set kept (omega (arith, below, few)) (λ same. omega (arith, same, before)) ∙ known i before
    by_place (inr past) =
        let same : i ≡ n = omega (arith, past, below) in
        ap (status_in new) same ∙ read_same old new n status set kept few ∙ is ∙ ap wanted (sym same)
