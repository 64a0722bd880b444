-- What is known by all changes.
use Rattle.std.proofs.Common.{ℕ, zero, suc, ◌≡◌, ◌<◌, ◌==◌, nat_lt, Bool, true, false, if◌then◌else◌, Some, unwrap_or, get_or, List, [], ◌∷◌, ◌++◌}
use Rattle.std.proofs.Common.{length, find, option_map, refl, sym, ap, ◌∙◌, arith, append_assoc, eqb-true, lt-ltb}
use Rattle.std.proofs.lemmas.Bool.Decides.{nat_tests}
use Rattle.std.proofs.lemmas.List.{append-nil, reverse-append}
use Rattle.health_wire.specs.declared.serving.Serving.{Serving}
use Rattle.health_wire.specs.declared.serving.Serving.TheVariants.{Unknown, NotServing, ServiceUnknown, Serving as IsServing}
use Rattle.health_wire.specs.Serving.{serving_number}
use Rattle.desk_core.specs.declared.change.Change.{Change}
use Rattle.desk_core.specs.declared.entry.Entry.{Entry}
use Rattle.desk_core.specs.Status.{shown}
use Rattle.desk_core.specs.Changes.{is_same, changed, changes_of, shown_at}
use Rattle.desk_core.specs.Watch.{is_of, last_told}

-- statuses of one number are one status
is_same-eq : (a b : Serving) → is_same a b ≡ true → a ≡ b
is_same-eq a b same = sym (back a) ∙ ap (λ n. get_or (Unknown ∷ IsServing ∷ NotServing ∷ ServiceUnknown ∷ []) n Unknown) (eqb-true (serving_number a) (serving_number b) same) ∙ back b
  where
    back : (status : Serving) → get_or (Unknown ∷ IsServing ∷ NotServing ∷ ServiceUnknown ∷ []) (serving_number status) Unknown ≡ status
    back Unknown = refl
    back IsServing = refl
    back NotServing = refl
    back ServiceUnknown = refl

-- after a slot's turn it is told as it is shown then, where it was told as it was shown; the other slots are told as before
told_at_turn : (changes : List Change) (at n slot : ℕ) (was is : Serving) → (n ≡ slot → last_told changes slot ≡ was)
    → last_told (changes ++ (if is_same was is then [] else record { at = at; slot = n; status = is } ∷ [])) slot
    ≡ (if n == slot then is else last_told changes slot)
told_at_turn changes at n slot was is known = by_test (is_same was is) refl
  where
    change : Change
    change = record { at = at; slot = n; status = is }

    by_test : (b : Bool) → is_same was is ≡ b → last_told (changes ++ (if b then [] else change ∷ [])) slot ≡ (if n == slot then is else last_told changes slot)
    by_test true same =
        let same_status : was ≡ is = is_same-eq was is same in ap (λ cs. last_told cs slot) (append-nil changes) ∙ grind (arith, nat_tests)
    by_test false same = ap (λ cs. unwrap_or (option_map (λ c. c.status) (find (is_of slot) cs)) ServiceUnknown) (reverse-append changes (change ∷ [])) ∙ grind (arith, nat_tests)

-- of the slots below the n-th what is told is what is shown after the entry, and of the others what was shown before it
pub told_below : (changes : List Change) (at n slot : ℕ) (before after : ℕ → Serving) → last_told changes slot ≡ before slot
    → last_told (changes ++ changed at before after n) slot ≡ (if nat_lt slot n then after slot else before slot)
unfolding changed
told_below changes at zero slot before after known = ap (λ cs. last_told cs slot) (append-nil changes) ∙ known ∙ grind (arith, nat_tests)
told_below changes at (suc n) slot before after known =
    let until = told_below changes at n slot before after known in
    ap (λ cs. last_told cs slot) (sym (append_assoc changes (changed at before after n) (if is_same (before n) (after n) then [] else record { at = at; slot = n; status = after n } ∷ [])))
    ∙ told_at_turn (changes ++ changed at before after n) at n slot (before n) (after n) (λ own. until ∙ grind (arith, nat_tests))
    ∙ ap (λ status. if n == slot then after n else status) until
    ∙ grind (arith, nat_tests)

-- whoever was told all changes of a slot knows what is shown of it
pub last_is_shown : (entries : List Entry) (slot : ℕ) → slot < 16 → last_told (changes_of entries) slot ≡ shown entries (Some slot)
last_is_shown [] slot few = refl
last_is_shown (entry ∷ older) slot few =
    told_below (changes_of older) (length older) 16 slot (shown_at older) (shown_at (entry ∷ older)) (last_is_shown older slot few)
    ∙ ap (λ b. if b then shown_at (entry ∷ older) slot else shown_at older slot) (lt-ltb slot 16 few)
