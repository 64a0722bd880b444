-- How many changes a journal can have, and which of them are kept.
use Rattle.std.proofs.Common.{ℕ, Option, Some, None, zero, suc, ◌≡◌, ◌+◌, ◌-◌, ◌*◌, ◌<◌, ◌≤◌, Bool, true, false, if◌then◌else◌, List, [], ◌∷◌, ◌++◌}
use Rattle.std.proofs.Common.{length, take, drop, sym, ap, subst, ◌∙◌, inl, inr, ◌⊎◌, arith, length-append}
use Rattle.std.specs.Prelude.{IsSome}
use Rattle.std.proofs.lemmas.List.{length-reverse, take_all}
use Rattle.std.proofs.Math.Seq.{drop-nil}
use Rattle.health_wire.specs.declared.serving.Serving.{Serving}
use Rattle.desk_core.specs.declared.change.Change.{Change}
use Rattle.desk_core.specs.declared.entry.Entry.{Entry}
use Rattle.desk_core.specs.Changes.{changes_of, changed, is_same, shown_at}
use Rattle.desk_core.specs.Past.{past}
use Rattle.desk_core.specs.Watch.{WatchState, IsBehind, IsOlder}
use Rattle.desk_core.proofs.WatchLemmas.{front_stays}
use Rattle.tail.specs.Tail.{forgotten, kept_of}

-- an entry changes each slot once at most
changed_few : (at : ℕ) (before after : ℕ → Serving) (n : ℕ) → length (changed at before after n) ≤ n
unfolding changed
changed_few at before after zero = omega arith
changed_few at before after (suc n) = by_test (is_same (before n) (after n)) (changed_few at before after n)
  where
    more : Bool → List Change
    more b = if b then [] else record { at = at; slot = n; status = after n } ∷ []

    one : (b : Bool) → length (more b) ≤ 1
    one true = omega arith
    one false = omega arith

    by_test : (b : Bool) → length (changed at before after n) ≤ n → length (changed at before after n ++ more b) ≤ suc n
    by_test b few = omega (arith, few, one b, length-append (changed at before after n) (more b))

pub changes_few : (entries : List Entry) → length (changes_of entries) ≤ 16 * length entries
changes_few [] = omega arith
changes_few (entry ∷ older) =
    let now : List Change = changed (length older) (shown_at older) (shown_at (entry ∷ older)) 16 in
    omega (arith, changes_few older, length-append (changes_of older) now, changed_few (length older) (shown_at older) (shown_at (entry ∷ older)) 16)

-- there is a number for each change
pub room_left : (journal : List Entry) (changes kept : List Change) (max_entries : ℕ) → changes ≡ changes_of (past journal) → kept ≡ changes
    → length journal ≤ max_entries → max_entries < 4294967296 → length kept + 16 < 9223372036854775808
room_left journal changes kept max_entries told same few limit =
    omega (arith, ap length told, ap length same, changes_few (past journal), length-reverse journal, few, limit)

-- the next change of a watch that is not behind is kept
pub kept_suffice : (kept : Option ℕ) (changes : List Change) (watch : WatchState) → IsSome watch.slot
    → (IsBehind kept changes watch → ⊥) → forgotten kept (length changes) ≤ watch.cursor
kept_suffice None changes watch has near = omega arith
kept_suffice (Some kept) changes watch has near = by_order (search arith)
  where
    by_order : (watch.cursor + kept < length changes) ⊎ (length changes ≤ watch.cursor + kept) → length changes - kept ≤ watch.cursor
    by_order (inl behind) = absurd (near (has, behind))
    by_order (inr close) = omega (arith, close)

-- a watch past all that is forgotten is not behind
pub suffice_near : (kept : Option ℕ) (changes : List Change) (watch : WatchState) → forgotten kept (length changes) ≤ watch.cursor
    → IsBehind kept changes watch → ⊥
suffice_near None changes watch past behind = behind
suffice_near (Some kept) changes watch past behind = omega (arith, past, behind.1)

-- a watch of no slot is not behind
pub no_slot_near : (kept : Option ℕ) (changes : List Change) (watch : WatchState) → watch.slot ≡ None → IsBehind kept changes watch → ⊥
no_slot_near None changes watch none behind = behind
no_slot_near (Some kept) changes watch none behind =
    let never : false ≡ true = subst (λ (slot : Option ℕ). IsSome slot) none behind.0 in cc

-- what is left of a list behind a place is left of its end from an earlier place on
drop_of_end : {A : Type 0} (xs : List A) (at n : ℕ) → at ≤ n → drop n xs ≡ drop (n - at) (drop at xs)
drop_of_end xs zero n before = let same : n ≡ n - 0 = omega arith in ap (λ left. drop left xs) same
drop_of_end [] (suc at) n before = drop-nil n ∙ sym (drop-nil (n - suc at))
drop_of_end (x ∷ xs) (suc at) zero before = absurd (omega (arith, before))
drop_of_end (x ∷ xs) (suc at) (suc n) before =
    let same : n - at ≡ suc n - suc at = omega arith in
    drop_of_end xs at n (omega (arith, before)) ∙ ap (λ left. drop left (drop at xs)) same

pub part_of_kept : (kept : Option ℕ) (changes : List Change) (watch : WatchState) → IsSome watch.slot → (IsBehind kept changes watch → ⊥)
    → drop watch.cursor changes ≡ drop (watch.cursor - forgotten kept (length changes)) (kept_of kept changes)
part_of_kept kept changes watch has near =
    drop_of_end changes (forgotten kept (length changes)) watch.cursor (kept_suffice kept changes watch has near)

-- a front is no longer than the whole
front_short : {A : Type 0} (xs ys : List A) → take (length xs) ys ≡ xs → length xs ≤ length ys
front_short xs ys front = by_order (search arith)
  where
    by_order : (length ys ≤ length xs) ⊎ (length xs ≤ length ys) → length xs ≤ length ys
    by_order (inl shorter) = omega (arith, ap length (sym front ∙ take_all (length xs) ys shorter))
    by_order (inr longer) = longer

-- as the history grows a watch that is behind stays so
pub stays_behind : (kept : Option ℕ) (older entries : List Entry) (watch : WatchState) → IsOlder older entries
    → IsBehind kept (changes_of older) watch → IsBehind kept (changes_of entries) watch
stays_behind None older entries watch grows behind = behind
stays_behind (Some kept) older entries watch grows behind =
    (behind.0, omega (arith, behind.1, front_short (changes_of older) (changes_of entries) (front_stays older entries grows)))
