-- What an entry adds to the list of changes.
use Rattle.std.proofs.Common.{ℕ, zero, suc, ◌≡◌, ◌≢◌, ◌+◌, ◌-◌, ◌/◌, ◌%◌, ◌^◌, ◌<◌, ◌≤◌, true, if◌then◌else◌, unwrap_or, List, [], ◌∷◌, ◌++◌, refl}
use Rattle.std.proofs.Common.{sym, ap, ◌∙◌, arith, append_assoc, eq-eqb, inl, inr, ◌⊎◌}
use Rattle.std.proofs.lemmas.Bool.{cases_lt}
use Rattle.std.proofs.lemmas.List.{append-nil}
use Rattle.std.proofs.lemmas.Nat.{pow-add}
use Rattle.std.proofs.Math.Nat.{div-div-eq-div-mul}
use Rattle.health_wire.specs.Serving.{serving_number}
use Rattle.health_wire.specs.declared.serving.Serving.{Serving}
use Rattle.health_wire.specs.declared.serving.Serving.TheVariants.{ServiceUnknown}
use Rattle.desk_core.specs.declared.change.Change.{Change}
use Rattle.desk_core.specs.Changes.{is_same, changed}
use Rattle.desk_core.specs.Board.{status_of_code}
use Rattle.desk_core.specs.Slots.{shown_in}

-- before the first slot nothing is added
pub told_none : (changes : List Change) (at : ℕ) (before after : ℕ → Serving) → changes ≡ changes ++ changed at before after 0
unfolding changed
told_none changes at before after = sym (append-nil changes)

-- one more slot
pub told_next : (old changes new : List Change) (at n slot : ℕ) (before after : ℕ → Serving) (was is : Serving)
    → changes ≡ old ++ changed at before after n
    → new ≡ changes ++ (if is_same was is then [] else record { at = at; slot = slot; status = is } ∷ [])
    → slot ≡ n → was ≡ before n → is ≡ after n
    → new ≡ old ++ changed at before after (n + 1)
unfolding changed
told_next old changes new at n slot before after was is until added slot_is was_is is_is =
    let next : n + 1 ≡ suc n = omega arith in
    let more : ℕ → Serving → Serving → List Change = λ k x y. if is_same x y then [] else record { at = at; slot = k; status = y } ∷ [] in
    added
    ∙ ap (λ cs. cs ++ more slot was is) until
    ∙ append_assoc old (changed at before after n) (more slot was is)
    ∙ ap (λ k. old ++ (changed at before after n ++ more k was is)) slot_is
    ∙ ap (λ x. old ++ (changed at before after n ++ more n x is)) was_is
    ∙ ap (λ y. old ++ (changed at before after n ++ more n (before n) y)) is_is
    ∙ ap (λ k. old ++ changed at before after k) (sym next)

-- the same slots are shown otherwise where the same is shown
pub changed_same : (at n : ℕ) (before after before_too after_too : ℕ → Serving)
    → ((i : ℕ) → i < n → before i ≡ before_too i) → ((i : ℕ) → i < n → after i ≡ after_too i)
    → changed at before after n ≡ changed at before_too after_too n
unfolding changed
changed_same at zero before after before_too after_too same_before same_after = refl
changed_same at (suc n) before after before_too after_too same_before same_after =
    let more : Serving → Serving → List Change = λ x y. if is_same x y then [] else record { at = at; slot = n; status = y } ∷ [] in
    ap (λ cs. cs ++ more (before n) (after n)) (changed_same at n before after before_too after_too (λ i below. same_before i (omega arith)) (λ i below. same_after i (omega arith)))
    ∙ ap (λ x. changed at before_too after_too n ++ more x (after n)) (same_before n (omega arith))
    ∙ ap (λ y. changed at before_too after_too n ++ more (before_too n) y) (same_after n (omega arith))

is_same-refl : (status : Serving) → is_same status status ≡ true
is_same-refl status = eq-eqb (serving_number status) (serving_number status) refl

-- slots that are shown as before add nothing
pub told_rest : (at n more : ℕ) (before after : ℕ → Serving) → ((i : ℕ) → n ≤ i → i < n + more → before i ≡ after i)
    → changed at before after (n + more) ≡ changed at before after n
unfolding changed
told_rest at n zero before after same = let none : n + zero ≡ n = omega arith in rw none refl
told_rest at n (suc more) before after same =
    let next : n + suc more ≡ suc (n + more) = omega arith in
    let last : before (n + more) ≡ after (n + more) = same (n + more) (omega arith) (omega arith) in
    let silent : is_same (before (n + more)) (after (n + more)) ≡ true = ap (λ status. is_same status (after (n + more))) last ∙ is_same-refl (after (n + more)) in
    rw next (rw silent (append-nil (changed at before after (n + more)) ∙ told_rest at n more before after (λ i first below. same i first (omega (arith, below)))))

-- the rest of a word behind one slot more
pub rest_more : (rest word n : ℕ) → rest ≡ word / 4 ^ n → rest / 4 ≡ word / 4 ^ (n + 1)
rest_more rest word n is = ap (λ k. k / 4) is ∙ div-div-eq-div-mul word (4 ^ n) 4 ∙ ap (λ w. word / w) (sym (pow-add 4 n 1))

-- where nothing is left of both words, or the same, the slots behind are shown alike
pub rest_same : (word other n i : ℕ) → word / 4 ^ n ≡ other / 4 ^ n → n ≤ i → shown_in word i ≡ shown_in other i
rest_same word other n i same past =
    let place : i ≡ n + (i - n) = omega (arith, past) in
    let digit : (w : ℕ) → w / 4 ^ i ≡ w / 4 ^ n / 4 ^ (i - n) = λ w.
    ap (λ k. w / 4 ^ k) place ∙ ap (λ weight. w / weight) (pow-add 4 n (i - n)) ∙ sym (div-div-eq-div-mul w (4 ^ n) (4 ^ (i - n))) in
    ap (λ k. unwrap_or (status_of_code (k % 4)) ServiceUnknown) (digit word ∙ ap (λ k. k / 4 ^ (i - n)) same ∙ sym (digit other))

-- nothing is left of a word behind its last slot
pub nothing_left : (rest word : ℕ) → rest ≡ word / 4 ^ 16 → word < 4294967296 → rest ≡ 0
nothing_left rest word is small = omega (arith, is, small)

-- while the rests of two words differ, there are slots left
pub slots_left : (old new before after n : ℕ) → n ≤ 16 → old ≡ before / 4 ^ n → new ≡ after / 4 ^ n → before < 4294967296 → after < 4294967296
    → old ≢ new → n < 16
slots_left old new before after n few old_is new_is before_small after_small differ = by_place (cases_lt n 16)
  where
    by_place : (n < 16) ⊎ (16 ≤ n) → n < 16
    by_place (inl below) = below
    by_place (inr past) =
        let end : n ≡ 16 = omega (arith, few, past) in
        absurd (differ (nothing_left old before (old_is ∙ ap (λ k. before / 4 ^ k) end) before_small
        ∙ sym (nothing_left new after (new_is ∙ ap (λ k. after / 4 ^ k) end) after_small)))
