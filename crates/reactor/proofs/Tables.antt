-- What a change of one key does to a table's parts.
use Rattle.std.proofs.Common.{◌≡◌, ◌≢◌, ℕ, zero, suc, ◌+◌, ◌<◌, false, true, List, [], ◌∷◌, ◌++◌, length, length-append, get_or, slice_set, Option, Some, None, is_some, cond, count_by, refl, sym, ap, ◌∙◌, arith}
use Rattle.std.proofs.lemmas.List.{get_or-set_other, get_or-set_same, set-get_or}
use Rattle.std.proofs.lemmas.Option.{none-some}
use Rattle.slab.specs.Slab.{Slab, get, slab_len, Updates}
use Rattle.reactor.specs.declared.held_connection.HeldConnection.{HeldConnection}
use Rattle.reactor.specs.Table.{is_watch, newcomer, IsAccounted, IsTable}
use Rattle.reactor.proofs.Counts.{weight, count_changed}

module _ {C : Type 0} where
  -- a table's parts are accounted for
  pub accounted : {places : List (Option (HeldConnection C))} {watches counted : ℕ} {taken ended : List (Unit {0})} {most most_watches : ℕ}
      → IsTable places watches counted taken ended most most_watches
      → IsAccounted (record { places = places; taken = length taken; ended = length ended; most = most; most_watches = most_watches })
  accounted table = record { whole = table.whole; few = table.few; few_watches = omega (arith, table.few_watches, table.watches_are) }

  -- the Watches change by what the key found and what it finds
  pub watches_changed : (old new : Slab (HeldConnection C)) (key : ℕ) (slot : Option (HeldConnection C)) → Updates old new key slot
      → count_by is_watch new.slots + weight is_watch refl (get old key) ≡ count_by is_watch old.slots + weight is_watch refl slot
  watches_changed old new key slot updates =
      rw updates.changed at (count_changed is_watch refl old.slots new.slots key updates.others)

  -- a connection that is taken in
  pub taken_in : (old new : Slab (HeldConnection C)) (key : ℕ) (connection : C) {watches counted : ℕ} {taken ended : List (Unit {0})} {most most_watches : ℕ}
      → IsTable old.slots watches counted taken ended most most_watches → slab_len old < most
      → get old key ≡ None → Updates old new key (Some (newcomer connection)) → slab_len new ≡ slab_len old + 1
      → IsTable new.slots watches counted (taken ++ tt ∷ []) ended most most_watches
  taken_in old new key connection {taken = taken} table room vacant updates longer =
      let changed = watches_changed old new key _ updates in
      let was : weight is_watch refl (get old key) ≡ 0 = rw vacant refl in
      record {
        watches_are = omega (arith, table.watches_are, changed, was);
        counted_are = table.counted_are;
        whole = omega (arith, table.whole, longer, length-append taken (tt ∷ []));
        few = omega (arith, longer, room);
        few_watches = table.few_watches;
      }

  -- what is put back where it was leaves the places as they were
  pub put_back : (places : List (Option (HeldConnection C))) (key : ℕ) (place : HeldConnection C) → Some place ≡ get_or places key None → slice_set places key (Some place) ≡ places
  put_back places key place found = ap (slice_set places key) found ∙ set-get_or places key None

  -- what a key holds lies in the places
  held_inside : (places : List (Option (HeldConnection C))) (key : ℕ) (place : HeldConnection C) → get_or places key None ≡ Some place → key < length places
  held_inside [] key place found = absurd (none-some place found)
  held_inside (one ∷ places) zero place found = omega arith
  held_inside (one ∷ places) (suc key) place found = let rest = held_inside places key place found in omega (arith, rest)

  -- a connection that is admitted as a Watch
  pub watch_admitted : {places : List (Option (HeldConnection C))} {watches counted : ℕ} {taken ended : List (Unit {0})} {most most_watches : ℕ} (key : ℕ) (place : HeldConnection C)
      → IsTable places watches counted taken ended most most_watches → Some place ≡ get_or places key None → place.is_watch ≡ false → watches < most_watches
      → IsTable (slice_set places key (Some (record { connection = place.connection; is_watch = true }))) (watches + 1) counted taken ended most most_watches
  watch_admitted {places} key place table found plain room =
      let watch : Option (HeldConnection C) = Some (record { connection = place.connection; is_watch = true }) in
      let after = get_or-set_same places key watch None (held_inside places key place (sym found)) in
      let others : (other : ℕ) → other ≢ key → get_or (slice_set places key watch) other None ≡ get_or places other None = λ other differs. get_or-set_other places key other watch None differs in
      let watches_now = count_changed is_watch refl places (slice_set places key watch) key others in
      let held_now = count_changed is_some refl places (slice_set places key watch) key others in
      let was : weight is_watch refl (get_or places key None) ≡ 0 = ap (weight is_watch refl) (sym found) ∙ ap (λ b. cond b 1 0) plain in
      let is : weight is_watch refl (get_or (slice_set places key watch) key None) ≡ 1 = ap (weight is_watch refl) after in
      let held_before : weight is_some refl (get_or places key None) ≡ 1 = ap (weight is_some refl) (sym found) in
      let held_after : weight is_some refl (get_or (slice_set places key watch) key None) ≡ 1 = ap (weight is_some refl) after in
      record {
        watches_are = omega (arith, table.watches_are, watches_now, was, is);
        counted_are = table.counted_are;
        whole = omega (arith, table.whole, held_now, held_before, held_after);
        few = omega (arith, table.few, held_now, held_before, held_after);
        few_watches = omega (arith, room);
      }
