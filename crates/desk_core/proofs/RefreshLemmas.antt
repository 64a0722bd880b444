-- What is computed anew after a change is what computing all anew would give.
use Rattle.std.proofs.Common.{◌≡◌, ◌≢◌, ℕ, zero, suc, ◌+◌, ◌<◌, ◌≤◌, ◌==◌, ◌&&◌, ◌||◌, not, nat_lt, Bool, true, false, if◌then◌else◌, Option, None}
use Rattle.std.proofs.Common.{Some, List, get_or, refl, sym, ap, subst, ◌∙◌, inl, inr, ◌⊎◌, bit_or, arith, ltb-true, lt-ltb}
use Rattle.std.specs.Option.{option_map}
use Rattle.std.proofs.lemmas.Bool.{eqb-true, eqb-false, cases_lt}
use Rattle.std.proofs.lemmas.Nat.Bits.{bit_at_or, bit_at-lt}
use Rattle.health_wire.specs.declared.serving.Serving.{Serving}
use Rattle.probe_core.specs.declared.rule.Rule.{Rule}
use Rattle.probe_core.specs.Rule.{relied_on}
use Rattle.desk_core.specs.Status.{has_slot, is_serving}
use Rattle.desk_core.specs.Board.{packed, status_in}
use Rattle.desk_core.specs.Slots.{covers_below, status_from, with_status}
use Rattle.desk_core.specs.Cache.{relies_on, rule_in, IsMapOf, LooksBack, HasDependents, Leaves}
use Rattle.desk_core.proofs.BoardLemmas.{IsKept, packed_same, status_in_packed, read_same}
use Rattle.desk_core.proofs.StatusLemmas.{kept_from}

-- statuses that agree on a mask's slots cover it alike
covers_agree : (f g : ℕ → Option Serving) (n mask : ℕ) → ((i : ℕ) → i < n → has_slot mask i ≡ true → f i ≡ g i) → covers_below f n mask ≡ covers_below g n mask
unfolding covers_below
covers_agree f g zero mask agree = refl
covers_agree f g (suc n) mask agree =
    ap (λ b. b && (not (has_slot mask n) || is_serving (f n))) (covers_agree f g n mask (λ i below. agree i (omega arith)))
    ∙ ap (λ b. covers_below g n mask && b) (by_test (has_slot mask n) refl (agree n (omega arith)))
  where
    by_test : (b : Bool) → has_slot mask n ≡ b → (has_slot mask n ≡ true → f n ≡ g n) → (not b || is_serving (f n)) ≡ (not b || is_serving (g n))
    by_test true is agree_here = ap is_serving (agree_here is)
    by_test false is agree_here = refl

-- a probe has one status by statuses that agree on what it relies on
status_agree : (f g : ℕ → Option Serving) (shut : Bool) (o : Option (Rule × ℕ))
    → ((j : ℕ) → j < 16 → relies_on (option_map (λ state. state.0) o) j ≡ true → f j ≡ g j)
    → option_map (status_from (covers_below f 16) shut) o ≡ option_map (status_from (covers_below g 16) shut) o
status_agree f g shut None agree = refl
status_agree f g shut (Some state) agree =
    let covered : covers_below f 16 (relied_on state.0) ≡ covers_below g 16 (relied_on state.0) = covers_agree f g 16 (relied_on state.0) agree in
    ap (λ b. option_map (status_from (λ m. b) shut) (Some state)) covered

-- the new statuses below the n-th slot, and the old ones from it on
abbrev pub mixed : (ℕ → Option Serving) → (ℕ → Option Serving) → ℕ → ℕ → Option Serving
mixed new old n i = if nat_lt i n then new i else old i

mixed_new : (new old : ℕ → Option Serving) (n i : ℕ) → i < n → mixed new old n i ≡ new i
mixed_new new old n i below = ap (λ b. if b then new i else old i) (lt-ltb i n below)

mixed_old : (new old : ℕ → Option Serving) (n i : ℕ) → n ≤ i → mixed new old n i ≡ old i
mixed_old new old n i past = by_test (nat_lt i n) refl
  where
    by_test : (b : Bool) → nat_lt i n ≡ b → (if b then new i else old i) ≡ old i
    by_test true is = let below : i < n = ltb-true i n is in absurd (omega (arith, below, past))
    by_test false is = refl

-- what is asked of a change that touched these slots
pub record Touches (f g : ℕ → Option Serving) (was slots : List (Option (Rule × ℕ))) (was_shut shut : Bool) (dependents : List ℕ) : Type 0 where
  pub old_map : IsMapOf was was_shut f
  pub new_map : IsMapOf slots shut g
  pub back : LooksBack slots
  pub related : HasDependents (rule_in slots) dependents

-- the slots below the n-th have their new status; the others their old one, which is the new one too where they are not
-- marked and no slot that they rely on changed
pub record Refreshing (f g : ℕ → Option Serving) (was slots : List (Option (Rule × ℕ))) (was_shut shut : Bool) (n marked word : ℕ) : Type 0 where
  pub word_is : word ≡ packed (mixed g f n) 16
  pub untouched : (i : ℕ) → n ≤ i → i < 16 → has_slot marked i ≡ false → (get_or slots i None ≡ get_or was i None) × (shut ≡ was_shut)
  pub settled : (i j : ℕ) → n ≤ i → i < 16 → has_slot marked i ≡ false → j < n → relies_on (rule_in slots i) j ≡ true → f j ≡ g j

pub refreshing_start : (f g : ℕ → Option Serving) (was slots : List (Option (Rule × ℕ))) (was_shut shut : Bool) (touched word : ℕ)
    → Leaves touched was was_shut slots shut → word ≡ packed f 16 → Refreshing f g was slots was_shut shut 0 touched word
refreshing_start f g was slots was_shut shut touched word leaves is = record {
  word_is = is ∙ packed_same f (mixed g f 0) 16 (λ i below. sym (mixed_old g f 0 i (omega arith)));
  untouched = λ i past few unmarked. leaves i few unmarked;
  settled = λ i j past few unmarked below. absurd (omega (arith, below));
}

kept_of_map : (slots : List (Option (Rule × ℕ))) (shut : Bool) (f : ℕ → Option Serving) → IsMapOf slots shut f → (i : ℕ) → i < 16 → IsKept (f i)
kept_of_map slots shut f map_is i few =
    let Kept : Option Serving → Type 0 = λ status. IsKept status in
    subst Kept (sym (map_is i few)) (kept_from (covers_below f 16) shut (get_or slots i None))

kept_mixed : (f g : ℕ → Option Serving) (n i : ℕ) → IsKept (f i) → IsKept (g i) → IsKept (mixed g f n i)
kept_mixed f g n i old new = by_test (nat_lt i n)
  where
    by_test : (b : Bool) → IsKept (if b then g i else f i)
    by_test true = new
    by_test false = old

-- a word that is refreshed up to a slot is read as the mixed statuses
read_mixed : (f g : ℕ → Option Serving) (was slots : List (Option (Rule × ℕ))) (was_shut shut : Bool) (dependents : List ℕ) (n word i : ℕ)
    → Touches f g was slots was_shut shut dependents → word ≡ packed (mixed g f n) 16 → i < 16 → status_in word i ≡ mixed g f n i
read_mixed f g was slots was_shut shut dependents n word i touches is few =
    status_in_packed (mixed g f n) word i is few (kept_mixed f g n i (kept_of_map was was_shut f touches.old_map i few) (kept_of_map slots shut g touches.new_map i few))

-- one slot more that keeps its status
next_same : (f g : ℕ → Option Serving) (was slots : List (Option (Rule × ℕ))) (was_shut shut : Bool) (n marked word : ℕ)
    → Refreshing f g was slots was_shut shut n marked word → f n ≡ g n → Refreshing f g was slots was_shut shut (n + 1) marked word
next_same f g was slots was_shut shut n marked word refreshing same = record {
  word_is = refreshing.word_is ∙ packed_same (mixed g f n) (mixed g f (n + 1)) 16 (λ i few. by_place i (cases_lt i n));
  untouched = λ i past few unmarked. refreshing.untouched i (omega (arith, past)) few unmarked;
  settled = λ i j past few unmarked below relies. by_turn i j past few unmarked relies (cases_lt j n) below;
}
  where
    by_place : (i : ℕ) → (i < n) ⊎ (n ≤ i) → mixed g f n i ≡ mixed g f (n + 1) i
    by_place i (inl before) = mixed_new g f n i before ∙ sym (mixed_new g f (n + 1) i (omega (arith, before)))
    by_place i (inr past) = mixed_old g f n i past ∙ by_end (cases_lt n i)
      where
        by_end : (n < i) ⊎ (i ≤ n) → f i ≡ mixed g f (n + 1) i
        by_end (inl later) = sym (mixed_old g f (n + 1) i (omega (arith, later)))
        by_end (inr here) =
            let at : i ≡ n = omega (arith, past, here) in
            ap f at ∙ same ∙ ap g (sym at) ∙ sym (mixed_new g f (n + 1) i (omega (arith, here)))

    by_turn : (i j : ℕ) → n + 1 ≤ i → i < 16 → has_slot marked i ≡ false → relies_on (rule_in slots i) j ≡ true → (j < n) ⊎ (n ≤ j) → j < n + 1 → f j ≡ g j
    by_turn i j past few unmarked relies (inl before) below = refreshing.settled i j (omega (arith, past)) few unmarked before relies
    by_turn i j past few unmarked relies (inr here) below = let at : j ≡ n = omega (arith, here, below) in ap f at ∙ same ∙ ap g (sym at)

-- a mark of either kind
marked_or : (a b i : ℕ) → has_slot (bit_or a b) i ≡ false → (has_slot a i ≡ false) × (has_slot b i ≡ false)
marked_or a b i unmarked =
    let either = eqb-false _ _ unmarked in
    let both = bit_at_or a b i in
    (by_number _ (bit_at-lt a i) (λ one. either (both ∙ omega (arith, one, bit_at-lt b i))), by_number _ (bit_at-lt b i) (λ one. either (both ∙ omega (arith, one, bit_at-lt a i))))
  where
    by_number : (k : ℕ) → k < 2 → k ≢ 1 → (k == 1) ≡ false
    by_number zero few other = refl
    by_number (suc zero) few other = absurd (other refl)
    by_number (suc (suc k)) few other = absurd (omega (arith, few))

-- one slot more that has a new status, and the slots that depend on it marked
next_changed : (f g : ℕ → Option Serving) (was slots : List (Option (Rule × ℕ))) (was_shut shut : Bool) (dependents : List ℕ) (n marked word new : ℕ)
    → Touches f g was slots was_shut shut dependents → Refreshing f g was slots was_shut shut n marked word → n < 16
    → new ≡ packed (with_status (status_in word) n (g n)) 16
    → Refreshing f g was slots was_shut shut (n + 1) (bit_or marked (get_or dependents n 0)) new
next_changed f g was slots was_shut shut dependents n marked word new touches refreshing few is = record {
  word_is = is ∙ packed_same (with_status (status_in word) n (g n)) (mixed g f (n + 1)) 16 (λ i below. by_slot i below (i == n) refl);
  untouched = λ i past below unmarked. refreshing.untouched i (omega (arith, past)) below (marked_or marked (get_or dependents n 0) i unmarked).0;
  settled = λ i j past below unmarked earlier relies. by_turn i j past below (marked_or marked (get_or dependents n 0) i unmarked) relies (cases_lt j n) earlier;
}
  where
    by_place : (i : ℕ) → i ≢ n → (i < n) ⊎ (n ≤ i) → mixed g f n i ≡ mixed g f (n + 1) i
    by_place i other (inl before) = mixed_new g f n i before ∙ sym (mixed_new g f (n + 1) i (omega (arith, before)))
    by_place i other (inr past) = mixed_old g f n i past ∙ sym (mixed_old g f (n + 1) i (omega (arith, past, other)))

    by_slot : (i : ℕ) → i < 16 → (b : Bool) → (i == n) ≡ b → (if b then g n else status_in word i) ≡ mixed g f (n + 1) i
    by_slot i below true at = let here : i ≡ n = eqb-true i n at in ap g (sym here) ∙ sym (mixed_new g f (n + 1) i (omega (arith, here)))
    by_slot i below false at =
        read_mixed f g was slots was_shut shut dependents n word i touches refreshing.word_is below ∙ by_place i (eqb-false i n at) (cases_lt i n)

    by_turn : (i j : ℕ) → n + 1 ≤ i → i < 16 → (has_slot marked i ≡ false) × (has_slot (get_or dependents n 0) i ≡ false) → relies_on (rule_in slots i) j ≡ true
        → (j < n) ⊎ (n ≤ j) → j < n + 1 → f j ≡ g j
    by_turn i j past below unmarked relies (inl before) earlier = refreshing.settled i j (omega (arith, past)) below unmarked.0 before relies
    by_turn i j past below unmarked relies (inr here) earlier =
        let at : n ≡ j = omega (arith, here, earlier) in
        let says : false ≡ relies_on (rule_in slots i) j = sym unmarked.1 ∙ touches.related i n below few ∙ ap (relies_on (rule_in slots i)) at in
        let never : false ≡ true = says ∙ relies in
        cc

-- a slot that is not marked keeps its status
unmarked_same : (f g : ℕ → Option Serving) (was slots : List (Option (Rule × ℕ))) (was_shut shut : Bool) (dependents : List ℕ) (n marked word : ℕ)
    → Touches f g was slots was_shut shut dependents → Refreshing f g was slots was_shut shut n marked word → n < 16 → has_slot marked n ≡ false → f n ≡ g n
unmarked_same f g was slots was_shut shut dependents n marked word touches refreshing few unmarked =
    let left = refreshing.untouched n (omega arith) few unmarked in
    touches.old_map n few
    ∙ ap (λ b. option_map (status_from (covers_below f 16) b) (get_or was n None)) (sym left.1)
    ∙ ap (option_map (status_from (covers_below f 16) shut)) (sym left.0)
    ∙ status_agree f g shut (get_or slots n None) (λ j below relies. refreshing.settled n j (omega arith) few unmarked (touches.back n j few relies) relies)
    ∙ sym (touches.new_map n few)

-- a slot that is computed anew gets its new status
computed_is : (f g : ℕ → Option Serving) (was slots : List (Option (Rule × ℕ))) (was_shut shut : Bool) (dependents : List ℕ) (n marked word : ℕ)
    → Touches f g was slots was_shut shut dependents → Refreshing f g was slots was_shut shut n marked word → n < 16
    → option_map (status_from (covers_below (status_in word) 16) shut) (get_or slots n None) ≡ g n
computed_is f g was slots was_shut shut dependents n marked word touches refreshing few =
    status_agree (status_in word) g shut (get_or slots n None) (λ j below relies.
    read_mixed f g was slots was_shut shut dependents n word j touches refreshing.word_is below ∙ mixed_new g f n j (touches.back n j few relies))
    ∙ sym (touches.new_map n few)

-- one slot more, whether it was marked or not
pub refreshing_more : (f g : ℕ → Option Serving) (was slots : List (Option (Rule × ℕ))) (was_shut shut : Bool) (dependents : List ℕ) (n slot marked word result new : ℕ)
    → Touches f g was slots was_shut shut dependents → Refreshing f g was slots was_shut shut n marked word → slot ≡ n → n < 16
    → (has_slot marked slot ≡ false → new ≡ word)
    → (has_slot marked slot ≡ true → new ≡ packed (with_status (status_in word) slot (option_map (status_from (covers_below (status_in word) 16) shut) (get_or slots slot None))) 16)
    → (new ≡ word → result ≡ marked) → (new ≢ word → result ≡ bit_or marked (get_or dependents slot 0))
    → Refreshing f g was slots was_shut shut (n + 1) result new
refreshing_more f g was slots was_shut shut dependents n slot marked word result new touches refreshing at few unmarked computed same changed =
    by_mark (has_slot marked slot) refl
  where
    with_result : (kept after : ℕ) → Refreshing f g was slots was_shut shut (n + 1) kept after → result ≡ kept → new ≡ after → Refreshing f g was slots was_shut shut (n + 1) result new
    with_result kept after next result_is new_is =
        let Result : ℕ → Type 0 = λ k. Refreshing f g was slots was_shut shut (n + 1) k after in
        let New : ℕ → Type 0 = λ w. Refreshing f g was slots was_shut shut (n + 1) result w in
        subst New (sym new_is) (subst Result (sym result_is) next)

    stays : new ≡ word → f n ≡ g n → Refreshing f g was slots was_shut shut (n + 1) result new
    stays is status = with_result marked word (next_same f g was slots was_shut shut n marked word refreshing status) (same is) is

    anew : has_slot marked slot ≡ true → new ≡ packed (with_status (status_in word) n (g n)) 16
    anew is =
        computed is
        ∙ ap (λ k. packed (with_status (status_in word) k (option_map (status_from (covers_below (status_in word) 16) shut) (get_or slots k None))) 16) at
        ∙ ap (λ status. packed (with_status (status_in word) n status) 16) (computed_is f g was slots was_shut shut dependents n marked word touches refreshing few)

    by_word : has_slot marked slot ≡ true → (b : Bool) → (new == word) ≡ b → Refreshing f g was slots was_shut shut (n + 1) result new
    by_word is true equal =
        let one : new ≡ word = eqb-true new word equal in
        stays one (sym (mixed_old g f n n (omega arith))
        ∙ sym (read_mixed f g was slots was_shut shut dependents n word n touches refreshing.word_is few)
        ∙ ap (λ w. status_in w n) (sym one)
        ∙ read_same word new n (g n) (anew is) (kept_of_map slots shut g touches.new_map n few) few)
    by_word is false differ =
        with_result (bit_or marked (get_or dependents n 0)) new
        (next_changed f g was slots was_shut shut dependents n marked word new touches refreshing few (anew is))
        (changed (eqb-false new word differ) ∙ ap (λ k. bit_or marked (get_or dependents k 0)) at) refl

    by_mark : (b : Bool) → has_slot marked slot ≡ b → Refreshing f g was slots was_shut shut (n + 1) result new
    by_mark true is = by_word is (new == word) refl
    by_mark false is =
        stays (unmarked is) (unmarked_same f g was slots was_shut shut dependents n marked word touches refreshing few (ap (has_slot marked) (sym at) ∙ is))

-- all slots were gone through
pub refreshed : (f g : ℕ → Option Serving) (was slots : List (Option (Rule × ℕ))) (was_shut shut : Bool) (n marked word : ℕ)
    → Refreshing f g was slots was_shut shut n marked word → n ≡ 16 → word ≡ packed g 16
refreshed f g was slots was_shut shut n marked word refreshing end =
    refreshing.word_is ∙ packed_same (mixed g f n) g 16 (λ i few. mixed_new g f n i (omega (arith, few, end)))
