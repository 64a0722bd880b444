-- The memory of a desk, and that it may have all that it may take.
use Rattle.std.proofs.Common.{◌≡◌, ◌≢◌, ◌<◌, ◌≤◌, ◌+◌, ◌^◌, ℕ, List, [], ◌∷◌, ◌++◌, length, Option, None, Some, refl, sym, ap, subst, ◌∙◌, arith}
use Rattle.std.proofs.lemmas.List.{length_push}
use Rattle.std.proofs.Math.Nat.{le_refl}
use Rattle.desk_core.specs.declared.refusal.Refusal.TheVariants.{NoMemory, NotStored}
use Rattle.desk_core.specs.declared.refusal.Refusal.TheVariants as Refusals
use Rattle.desk_core.specs.Desk.{State, IsAtLimit, HoldsMemory}
use Rattle.tail.specs.Tail.{most_held}

-- a desk at its limit has a place for each slot
pub has_places : (kept : Option ℕ) (desk : State) → IsAtLimit kept desk → 16 ≤ desk.places
has_places None desk limit = absurd limit
has_places (Some kept) desk limit = limit.places

-- one at its limit forgets, and its two lists have all the memory that they may take
pub has_lists : {Goal : Type 0} (kept : Option ℕ) (desk : State) → IsAtLimit kept desk
    → ((most : ℕ) → kept ≡ Some most → desk.capacity.entries ≡ most_held most → desk.capacity.changes ≡ most_held most → Goal) → Goal
has_lists None desk limit gives = absurd limit
has_lists (Some kept) desk limit gives = gives kept refl limit.entries limit.changes

-- a desk that has no less memory than the one that stood here before
pub holds_memory : (old was new : State) → was ≡ old → was.capacity.entries ≤ new.capacity.entries → was.capacity.changes ≤ new.capacity.changes
    → was.places ≤ new.places → HoldsMemory old new
holds_memory old was new is entries changes places = subst (λ desk. HoldsMemory desk new) is (record { entries = entries; changes = changes; places = places })

-- and so where its memory is the same
pub holds_itself : (desk : State) → HoldsMemory desk desk
holds_itself desk = record { entries = le_refl desk.capacity.entries; changes = le_refl desk.capacity.changes; places = le_refl desk.places }

-- a desk at its limit has places for all slots, by another count of them
pub has_all_places : (kept : Option ℕ) (desk : State) (count : ℕ) → count ≡ desk.places → IsAtLimit kept desk → 15 < count
has_all_places kept desk count is limit = omega (arith, is, has_places kept desk limit)

-- out of memory is not a store's refusal
pub causes_differ : NoMemory ≢ NotStored
causes_differ is = cc

-- nor are a bad rule and a full journal
pub rule_differs : Refusals.BadRule ≢ NotStored
rule_differs is = cc

pub full_differs : Refusals.Full ≢ NotStored
full_differs is = cc

-- a journal that is full has as many entries as it may
pub as_many_as_may : (count entries wide most : ℕ) → wide ≤ count → wide ≡ most → count ≡ entries → entries ≤ most → entries ≡ most
as_many_as_may count entries wide most full same is room = omega arith

-- memory that grew and then stayed
pub grown_since : (old room then now : ℕ) → old ≤ room → then ≡ room → now ≡ then → old ≤ now
grown_since old room then now grows same still = omega arith

-- there are places for all slots still
pub placed_since : (was now : ℕ) → 15 < was → now ≡ was → 16 ≤ now
placed_since was now room same = omega arith

-- an entry that is the last one has its place
pub place_of_last : {A : Type 0} (older entries : List A) (entry : A) (place : ℕ) → entries ≡ older ++ entry ∷ [] → place ≡ length older → length entries ≡ place + 1
place_of_last older entries entry place is there = ap length is ∙ length_push older entry ∙ ap (λ n. n + 1) (sym there)

-- a journal that is not full has few entries, also with one more
pub few_below : (entries most : ℕ) → entries < most → most < 2 ^ 32 → entries + 1 < 2 ^ 32
few_below entries most below few = omega arith

pub few_still : (now inside entries within most : ℕ) → now ≡ inside → inside ≡ entries → within ≡ most → entries < most → within < 2 ^ 32 → now < 2 ^ 32
few_still now inside entries within most same is most_is below few = omega arith
