-- How many connections and Watches a table holds, where one key changes.
use Rattle.std.proofs.Common.{Bool, true, false, ap, sym, inr, ◌<◌, ◌≡◌, ℕ, ◌+◌, ◌≤◌, Some, None, is_some, refl, arith, ◌∙◌}
use Rattle.reactor.specs.declared.held_connection.HeldConnection.{HeldConnection}
use Rattle.reactor.specs.Table.{TableState, Changes, MayBeAdmitted, held_count, watch_count, is_watch, newcomer, place_at}
use Rattle.reactor.proofs.Counts.{count_changed}
use Rattle.live_server.specs.Places.{HasPlaces, connections_taken, limits_behind, taken_with, watches_taken}
use Rattle.live_server.specs.declared.places.Taken.{Taken}

module _ {C : Type 0} where
  -- no more are held where one ends
  pub fewer_held : (old new : TableState C) (key : ℕ) → Changes old new key None → held_count new ≤ held_count old
  fewer_held old new key changes =
      let changed = rw changes.changed at (count_changed is_some refl old.places new.places key changes.others) in
      omega (arith, changed)

  -- no more are Watches where one ends
  pub fewer_watches : (old new : TableState C) (key : ℕ) → Changes old new key None → watch_count new ≤ watch_count old
  fewer_watches old new key changes =
      let changed = rw changes.changed at (count_changed is_watch refl old.places new.places key changes.others) in
      omega (arith, changed)

  -- one more is held where one is taken in
  pub one_more_held : (old new : TableState C) (key : ℕ) (connection : C) → place_at old key ≡ None → Changes old new key (Some (newcomer connection))
      → held_count new ≡ held_count old + 1
  one_more_held old new key connection vacant changes =
      let changed = rw (changes.changed, vacant) at (count_changed is_some refl old.places new.places key changes.others) in
      omega (arith, changed)

  -- as many are Watches
  pub same_watches : (old new : TableState C) (key : ℕ) (connection : C) → place_at old key ≡ None → Changes old new key (Some (newcomer connection))
      → watch_count new ≡ watch_count old
  same_watches old new key connection vacant changes =
      let changed = rw (changes.changed, vacant) at (count_changed is_watch refl old.places new.places key changes.others) in
      omega (arith, changed)

  -- the same places are taken where a connection is in the place of another
  pub placed_still : (taken : Taken) (old new : TableState C) (key : ℕ) (was now : HeldConnection C) → place_at old key ≡ Some was → now.is_watch ≡ was.is_watch → Changes old new key (Some now)
      → HasPlaces taken old → HasPlaces taken new
  placed_still taken old new key was now held same changes placed =
      let as_many = rw (changes.changed, held) at (count_changed is_some refl old.places new.places key changes.others) in
      let as_many_watches = rw (changes.changed, held, same) at (count_changed is_watch refl old.places new.places key changes.others) in
      record {
        connections = omega (arith, as_many, placed.connections);
        watches = omega (arith, as_many_watches, placed.watches);
        most = changes.most ∙ placed.most;
        most_watches = changes.most_watches ∙ placed.most_watches;
      }

  -- one more Watch has a place where one is admitted for which there was one
  pub placed_admitted : (taken taken_now : Taken) (old made new : TableState C) (key : ℕ) (was : HeldConnection C) (watched admits : Bool) → place_at old key ≡ Some was
      → watched ≡ is_watch (place_at old key) → watched ≡ false → watches_taken taken < (limits_behind taken).watches
      → taken_now ≡ taken_with taken (connections_taken taken) (watches_taken taken + 1) → (MayBeAdmitted old key → admits ≡ true) → (admits ≡ true → new ≡ made)
      → Changes old made key (Some (record { connection = was.connection; is_watch = true })) → HasPlaces taken old → HasPlaces taken_now new
  placed_admitted taken taken_now old made new key was watched admits held is none few one_more may marked changes placed =
      let unwatched : was.is_watch ≡ false = ap is_watch (sym held) ∙ (sym is ∙ none) in
      let room : watch_count old < old.most_watches = omega (arith, few, placed.watches, placed.most_watches) in
      let admitted = may (record { held = ap is_some held; room = inr room }) in
      let as_many = rw (changes.changed, held) at (count_changed is_some refl old.places made.places key changes.others) in
      let one_watch = rw (changes.changed, held, unwatched) at (count_changed is_watch refl old.places made.places key changes.others) in
      rw (one_more, marked admitted)
      (record {
        connections = omega (arith, as_many, placed.connections);
        watches = omega (arith, one_watch, placed.watches);
        most = changes.most ∙ placed.most;
        most_watches = changes.most_watches ∙ placed.most_watches;
      })
