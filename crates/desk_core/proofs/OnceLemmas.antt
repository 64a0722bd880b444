-- No status is told twice in a row.
use Rattle.std.proofs.Common.{ℕ, zero, suc, ◌≡◌, ◌≢◌, ◌<◌, ◌==◌, Bool, true, false, if◌then◌else◌, cond, Some, List, [], ◌∷◌, ◌++◌, length, map, filter}
use Rattle.std.proofs.Common.{refl, sym, ap, subst, ◌∙◌, arith, append_assoc, eqb-true}
use Rattle.std.proofs.lemmas.Bool.{eq-eqb}
use Rattle.std.proofs.lemmas.Bool.Decides.{nat_tests}
use Rattle.std.proofs.lemmas.List.{append-nil, map-append}
use Rattle.std.proofs.lemmas.List.Elements.{filter-append}
use Rattle.std.specs.List.{last_or}
use Rattle.health_wire.specs.declared.serving.Serving.{Serving}
use Rattle.health_wire.specs.declared.serving.Serving.TheVariants.{ServiceUnknown}
use Rattle.health_wire.specs.Serving.{serving_number}
use Rattle.desk_core.specs.declared.change.Change.{Change}
use Rattle.desk_core.specs.declared.entry.Entry.{Entry}
use Rattle.desk_core.specs.Status.{shown}
use Rattle.desk_core.specs.Changes.{is_same, changed, changes_of, shown_at}
use Rattle.desk_core.specs.Watch.{GoOn, last_of, is_of, last_told, story, opened, walk, cursor_past, AreChanges}
use Rattle.desk_core.proofs.ToldLemmas.{told_below, last_is_shown}
use Rattle.desk_core.proofs.CaughtUpLemmas.{told_last, story_since, goes_on}
use Rattle.desk_core.proofs.WatchLemmas.{changes_since, grown, story_joined, story_stays, walk_from_opening, range_from_opening}

-- a front of such statuses are such
front_of : (before : Serving) (front more : List Serving) → AreChanges before (front ++ more) → AreChanges before front
front_of before [] more each = tt
front_of before (status ∷ front) more each = (each.0, front_of status front more each.1)

-- the statuses after a front are such, after the last of it
after_front : (front more : List Serving) (before last : Serving) → AreChanges before (front ++ more) → last_or (Some before) front ≡ Some last → AreChanges last more
after_front [] more before last each is =
    let same : before ≡ last = cc in subst (λ status. AreChanges status more) same each
after_front (status ∷ front) more before last each is = after_front front more status last each.1 is

-- one more status is such, where it is another than the last
one_more : (front : List Serving) (before last status : Serving) → AreChanges before front → last_or (Some before) front ≡ Some last → status ≢ last
    → AreChanges before (front ++ status ∷ [])
one_more [] before last status each is other =
    let same : before ≡ last = cc in (λ as_before. other (as_before ∙ same), tt)
one_more (first ∷ front) before last status each is other = (each.0, one_more front first last status each.1 is other)

-- what a slot's changes say, the oldest first
told_of : List Change → ℕ → List Serving
told_of changes slot = map (λ change. change.status) (filter (is_of slot) changes)

-- a slot's turn adds a status that is another than the last, or none
each_at_turn : (changes : List Change) (at n slot : ℕ) (was is : Serving) → (n ≡ slot → last_told changes slot ≡ was)
    → AreChanges ServiceUnknown (told_of changes slot)
    → AreChanges ServiceUnknown (told_of (changes ++ (if is_same was is then [] else record { at = at; slot = n; status = is } ∷ [])) slot)
unfolding told_of
each_at_turn changes at n slot was is known each = by_test (is_same was is) refl
  where
    change : Change
    change = record { at = at; slot = n; status = is }

    Each : List Serving → Type 0
    Each statuses = AreChanges ServiceUnknown statuses

    other : is_same was is ≡ false → is ≢ was
    other differ same =
        let equal : is_same was is ≡ true = ap (λ status. is_same was status) same ∙ eq-eqb (serving_number was) (serving_number was) refl in
        let never : false ≡ true = sym differ ∙ equal in
        cc

    by_slot : (b : Bool) → (n == slot) ≡ b → is_same was is ≡ false
        → Each (map (λ change. change.status) (filter (is_of slot) changes ++ cond b (change ∷ []) []))
    by_slot true own differ =
        subst Each (sym (map-append (λ change. change.status) (filter (is_of slot) changes) (change ∷ [])))
        (one_more (told_of changes slot) ServiceUnknown was is each (told_last [] changes slot ∙ ap Some (known (eqb-true n slot own))) (other differ))
    by_slot false own differ = subst Each (ap (map (λ change. change.status)) (sym (append-nil (filter (is_of slot) changes)))) each

    by_test : (b : Bool) → is_same was is ≡ b → Each (told_of (changes ++ (if b then [] else change ∷ [])) slot)
    by_test true same = subst (λ cs. Each (told_of cs slot)) (sym (append-nil changes)) each
    by_test false same =
        subst (λ cs. Each (map (λ change. change.status) cs)) (sym (filter-append (is_of slot) changes (change ∷ []))) (by_slot (n == slot) refl same)

-- the changes of one entry in the slots below the n-th are such
each_below : (changes : List Change) (at n slot : ℕ) (before after : ℕ → Serving) → last_told changes slot ≡ before slot
    → AreChanges ServiceUnknown (told_of changes slot) → AreChanges ServiceUnknown (told_of (changes ++ changed at before after n) slot)
unfolding changed
each_below changes at zero slot before after known each =
    subst (λ cs. AreChanges ServiceUnknown (told_of cs slot)) (sym (append-nil changes)) each
each_below changes at (suc n) slot before after known each =
    let until = told_below changes at n slot before after known in
    subst (λ cs. AreChanges ServiceUnknown (told_of cs slot))
    (append_assoc changes (changed at before after n) (if is_same (before n) (after n) then [] else record { at = at; slot = n; status = after n } ∷ []))
    (each_at_turn (changes ++ changed at before after n) at n slot (before n) (after n) (λ own. until ∙ grind (arith, nat_tests)) (each_below changes at n slot before after known each))

-- a slot's changes are such in each history
each_told : (entries : List Entry) (slot : ℕ) → slot < 16 → AreChanges ServiceUnknown (told_of (changes_of entries) slot)
unfolding told_of
each_told [] slot few = tt
each_told (entry ∷ older) slot few =
    each_below (changes_of older) (length older) 16 slot (shown_at older) (shown_at (entry ∷ older)) (last_is_shown older slot few) (each_told older slot few)

-- the story of all of them is
pub all_are_changes : (entries : List Entry) (slot : ℕ) → slot < 16
    → AreChanges ServiceUnknown (story (changes_of entries) (Some slot) 0 (length (changes_of entries)))
unfolding told_of
all_are_changes entries slot few = subst (AreChanges ServiceUnknown) (sym (story_since [] (changes_of entries) slot)) (each_told entries slot few)

-- what a watcher is told is, after what it was shown
pub walk_is_changes : (entries : List Entry) (later : List (List Entry)) (slot : ℕ) → GoOn entries later → slot < 16
    → AreChanges (shown entries (Some slot)) (walk (opened (changes_of entries) (Some slot)) later)
walk_is_changes entries later slot go_on few =
    let front : List Change = changes_of entries in
    let now : List Change = changes_of (last_of entries later) in
    let start : ℕ = length front in
    let cursor : ℕ = cursor_past (opened front (Some slot)) later in
    let is_older = goes_on later entries go_on in
    let since : List Change = changes_since is_older.newer entries in
    let longer : now ≡ front ++ since = ap changes_of is_older.is ∙ grown is_older.newer entries in
    let range = range_from_opening entries later (Some slot) go_on in
    let all : AreChanges ServiceUnknown (story now (Some slot) 0 cursor ++ story now (Some slot) cursor (length now)) =
    subst (AreChanges ServiceUnknown) (story_joined now (Some slot) 0 cursor (length now) (omega arith) range.1 range.1) (all_are_changes (last_of entries later) slot few) in
    let until : AreChanges ServiceUnknown (story now (Some slot) 0 start ++ story now (Some slot) start cursor) =
    subst (AreChanges ServiceUnknown) (story_joined now (Some slot) 0 start cursor (omega arith) range.0 (omega (arith, range.0, range.1)))
    (front_of ServiceUnknown (story now (Some slot) 0 cursor) (story now (Some slot) cursor (length now)) all) in
    let told_first : story now (Some slot) 0 start ≡ map (λ change. change.status) (filter (is_of slot) front) =
    ap (λ cs. story cs (Some slot) 0 start) longer ∙ story_stays front since (Some slot) 0 start (omega arith) ∙ story_since [] front slot in
    let last : last_or (Some ServiceUnknown) (story now (Some slot) 0 start) ≡ Some (shown entries (Some slot)) =
    ap (last_or (Some ServiceUnknown)) told_first ∙ told_last [] front slot ∙ ap Some (last_is_shown entries slot few) in
    subst (AreChanges (shown entries (Some slot))) (sym (walk_from_opening entries later (Some slot) go_on))
    (after_front (story now (Some slot) 0 start) (story now (Some slot) start cursor) ServiceUnknown (shown entries (Some slot)) until last)
