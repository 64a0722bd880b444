-- Dealing out seats, writing and taking in notes, and the beginning of a hall keep its rule.
use Rattle.std.proofs.Common.{◌≡◌, ℕ, zero, suc, ◌+◌, ◌^◌, ◌<◌, ◌≢◌, ◌==◌, if◌then◌else◌, List, [], ◌∷◌, ◌++◌, length, set, sym, refl, ap, ◌∙◌, subst}
use Rattle.std.proofs.Common.{arith, ne_eqb, eq-eqb, ⊎_elim, inl, length-set, length-append}
use Rattle.std.specs.Prelude.{Option, Some}
use Rattle.std.specs.List.{sum_by}
use Rattle.std.proofs.lemmas.Bool.{false≢true}
use Rattle.std.proofs.lemmas.List.Sums.{sum_by-cons, sum_by_push, sum_by-append}
use mathlib.Core.Option.{some, some-injective, some-ne-none}
use mathlib.Core.Logic.{dite}
use native.Mathlib.Decide.{ℕ_discrete}
use lib.ListN.{get_elem?}
use Rattle.atomic_table.specs.Table.{State as Table, Splits, Joins, opening}
use Rattle.atomic_table.proofs.Lists.{set_again, set_else, at_last}
use Rattle.desk_core.specs.declared.entry.Entry.{Entry}
use Rattle.desk_core.specs.Board.{packed}
use Rattle.desk_core.specs.Desk.{State, new_desk}
use Rattle.desk_core.specs.Past.{past}
use Rattle.desk_core.specs.Seats.{calls_by}
use Rattle.desk_core.specs.Watch.{IsOlder}
use Rattle.hall.specs.declared.view.Held.{Held}
use Rattle.hall.specs.declared.view.GateStage.{GateStage}
use Rattle.hall.specs.declared.view.GateStage.TheVariants.{Idle, Queued, Served}
use Rattle.hall.specs.declared.view.View.{View}
use Rattle.hall.specs.declared.view.HallLimits.{HallLimits}
use Rattle.hall.specs.Views.{held, waits, serves, made_by, seen_of, dealer, seat_view, note_view, after_note, with_seats}
use Rattle.hall.specs.Gates.{Moment, IsHeld, IsStage, IsView, IsGated, HasNumber}
use Rattle.hall.proofs.Sums.{sum-set, each_set, at_end}
use Rattle.hall.proofs.Views.{older_nil, owned_held, joined_held, seen_older, placed_set, placed_more, placed_joined, number_first, number_second}

-- a hall at its beginning
beginning : ℕ → Moment
beginning most =
    record { history = []; most = most; drawn = 0; served = 0; out = 0; dealt = 0; dealer = 0; owner = λ n. 0; holder = λ n. 0 }

first_view : (most j : ℕ) (view : View) → get_elem? (dealer 0 most ∷ []) j ≡ some view → IsView (beginning most) j view
unfolding beginning
first_view most zero view at = subst (IsView (beginning most) 0) (some-injective (dealer 0 most) view at) (record {
  seats = tt;
  told = older_nil [];
  stage = tt;
  seated = omega arith;
  most = λ none. absurd (omega arith);
  deals = λ is. (refl, refl, refl);
})
first_view most (suc j) view at = absurd (some-ne-none view (sym at))

-- a hall begins with the empty history, the desk at home and nothing drawn
pub opens : (key : HallLimits) (desk : State) → key.most < 2 ^ 32 → key.seats < 2 ^ 16 → desk ≡ new_desk key.most
    → IsGated key (opening (0 ∷ 0 ∷ 0 ∷ []) (Some desk ∷ []) (dealer 0 key.most))
unfolding beginning packed
opens key desk most seats empty = record {
  moment = beginning key.most;
  bounds = (most, seats);
  most = refl;
  words = refl;
  home = (desk, refl, ap (λ (d : State). past d.journal) empty, ap (λ (d : State). d.max_entries) empty);
  legal = tt;
  room = omega arith;
  few = omega arith;
  fresh = λ n late. refl;
  each = first_view key.most;
  placed = λ n early. absurd (omega (arith, early));
  numbers = refl;
  tickets = refl;
  serving = refl;
  counted = refl;
}

-- the moment after one more number was dealt out, to the view at this place
dealing : Moment → ℕ → Moment
dealing m place = record {
  history = m.history;
  most = m.most;
  drawn = m.drawn;
  served = m.served;
  out = m.out;
  dealt = m.dealt + 1;
  dealer = m.dealer;
  owner = λ number. if number == m.dealt then place else m.owner number;
  holder = m.holder;
}

-- a stage is as before where a number was dealt out
stage_kept : (m : Moment) (place j : ℕ) (stage : GateStage) → IsStage m j stage → IsStage (dealing m place) j stage
unfolding dealing
stage_kept m place j Idle is = tt
stage_kept m place j (Queued ticket) is = is
stage_kept m place j (Served ticket history) is = is

-- a seat that has seen nothing made no changes
made_none : (number : ℕ) → made_by (held number [] ∷ []) ≡ 0
made_none number = sum_by-cons (λ (seat : Held). length (calls_by seat.seen seat.number)) (held number []) []

-- the view that deals has dealt out fewer seats than the hall has: it deals out the next
pub deals : (key : HallLimits) (id dealt most : ℕ) → dealt < key.seats → Splits (IsGated key) id (dealer dealt most) (dealer (dealt + 1) most) (seat_view dealt [] most)
unfolding dealing
deals key id dealt most more table r at =
    let m = r.moment in
    let v = dealer dealt most in
    let w = dealer (dealt + 1) most in
    let u = seat_view dealt [] most in
    let place = length table.views in
    let m' = dealing m place in
    let old = r.each id v at in
    let known = old.deals refl in
    let views = set table.views id w in
    let keeps_owner : (j number : ℕ) → number < m.dealt → m.owner number ≡ j → m'.owner number ≡ j =
    λ j number early owned. rw (ne_eqb number m.dealt (λ same. omega (arith, early, same))) owned in
    let left : IsView m' id w = record {
      seats = tt;
      told = old.told;
      stage = tt;
      seated = omega arith;
      most = λ none. absurd (omega arith);
      deals = λ is. (omega (arith, known.0), known.1, known.2);
    } in
    let right : IsView m' place u = record {
      seats = (
        record {
          older = older_nil m.history;
          own = r.fresh dealt (omega (arith, known.0));
          dealt = omega (arith, known.0);
          owned = rw (eq-eqb dealt m.dealt known.0) refl;
        },
        tt,
      );
      told = older_nil m.history;
      stage = tt;
      seated = omega arith;
      most = λ some_seat. known.1;
      deals = λ is. absurd (false≢true is);
    } in
    let others : (j : ℕ) (x : View) → get_elem? views j ≡ some x → IsView m' j x = each_set (IsView m') table.views id w left (λ j x other here.
    let was = r.each j x here in record {
      seats = owned_held m.history m.dealt (m.dealt + 1) m.owner m'.owner j j x.seats (omega arith) (keeps_owner j) was.seats;
      told = was.told;
      stage = stage_kept m place j x.stage was.stage;
      seated = was.seated;
      most = was.most;
      deals = λ is. absurd (other ((was.deals is).2 ∙ sym known.2));
    }) in
    let sum : (f : View → ℕ) → sum_by f (views ++ u ∷ []) + f v ≡ sum_by f table.views + f w + f u =
    λ f. omega (arith, sum_by_push f views u, sum-set f table.views id v w at) in
    record {
      moment = m';
      bounds = r.bounds;
      most = r.most;
      words = r.words;
      home = r.home;
      legal = r.legal;
      room = r.room;
      few = omega (arith, known.0, more);
      fresh = λ n late. r.fresh n (omega (arith, late));
      each = λ j x here. ⊎_elim (others j x) (λ t. subst (λ k. IsView m' k x) (sym (t.0 ∙ length-set table.views id w)) (subst (IsView m' place) t.1 right)) (at_end views u x j here);
      placed = λ n early. dite (ℕ_discrete n dealt)
          (λ same. record { place = place; view = u; at = at_last views u place (length-set table.views id w); has = inl (sym same) })
          (λ other. placed_more views u n (placed_set table.views id v w n at (λ has. has) (r.placed n (omega (arith, early, other, known.0)))));
      numbers = omega (arith, sum (λ (x : View). length x.seats), r.numbers);
      tickets = omega (arith, sum (λ (x : View). waits x.stage), r.tickets);
      serving = omega (arith, sum (λ (x : View). serves x.stage), r.serving);
      counted = omega (arith, sum (λ (x : View). made_by x.seats), r.counted, made_none dealt);
    }

-- one view is replaced by another that makes the same of the seats' numbers, tickets and changes
replaced : (key : HallLimits) (table : Table (Option State) View) (r : IsGated key table) (id : ℕ) (v w : View) → get_elem? table.views id ≡ some v → IsView r.moment id w
    → length w.seats ≡ length v.seats → waits w.stage ≡ waits v.stage → serves w.stage ≡ serves v.stage → made_by w.seats ≡ made_by v.seats
    → ((n : ℕ) → HasNumber n v.seats → HasNumber n w.seats) → IsGated key (record { words = table.words; homes = table.homes; views = set table.views id w })
replaced key table r id v w at own few waiting serving made keeps = record {
  moment = r.moment;
  bounds = r.bounds;
  most = r.most;
  words = r.words;
  home = r.home;
  legal = r.legal;
  room = r.room;
  few = r.few;
  fresh = r.fresh;
  each = each_set (IsView r.moment) table.views id w own (λ j u other here. r.each j u here);
  placed = λ n early. placed_set table.views id v w n at (keeps n) (r.placed n early);
  numbers = omega (arith, sum-set (λ (u : View). length u.seats) table.views id v w at, r.numbers, few);
  tickets = omega (arith, sum-set (λ (u : View). waits u.stage) table.views id v w at, r.tickets, waiting);
  serving = omega (arith, sum-set (λ (u : View). serves u.stage) table.views id v w at, r.serving, serving);
  counted = omega (arith, sum-set (λ (u : View). made_by u.seats) table.views id v w at, r.counted, made);
}

-- a note knows what is in the history
note_is : (m : Moment) (j : ℕ) (seen : List Entry) → IsOlder seen m.history → IsView m j (note_view seen)
note_is m j seen older = record {
  seats = tt;
  told = older;
  stage = tt;
  seated = omega arith;
  most = λ none. absurd (omega arith);
  deals = λ is. absurd (false≢true is);
}

-- a view writes a note of what its first seat has seen
pub tells : (key : HallLimits) (id : ℕ) (v : View) → Splits (IsGated key) id v v (note_view (seen_of v.seats))
tells key id v table r at =
    let m = r.moment in
    let u = note_view (seen_of v.seats) in
    let same : set table.views id v ≡ table.views = set_again table.views id v at in
    let told = seen_older m.history m.dealt m.owner id v.seats (r.each id v at).seats in
    let sum : (f : View → ℕ) → sum_by f (table.views ++ u ∷ []) ≡ sum_by f table.views + f u = λ f. sum_by_push f table.views u in
    rw same (record {
      moment = m;
      bounds = r.bounds;
      most = r.most;
      words = r.words;
      home = r.home;
      legal = r.legal;
      room = r.room;
      few = r.few;
      fresh = r.fresh;
      each = λ j x here. ⊎_elim (r.each j x) (λ t. subst (IsView m j) t.1 (note_is m j (seen_of v.seats) told)) (at_end table.views u x j here);
      placed = λ n early. placed_more table.views u n (r.placed n early);
      numbers = omega (arith, sum (λ (x : View). length x.seats), r.numbers);
      tickets = omega (arith, sum (λ (x : View). waits x.stage), r.tickets);
      serving = omega (arith, sum (λ (x : View). serves x.stage), r.serving);
      counted = omega (arith, sum (λ (x : View). made_by x.seats), r.counted);
    })

-- a view takes a note in, which is spent
pub meets : (key : HallLimits) (id : ℕ) (v : View) (other : ℕ) (seen : List Entry) → Joins (IsGated key) id v other (note_view seen) (after_note v (note_view seen)) (note_view [])
unfolding replaced
meets key id v other seen table r at apart there =
    let m = r.moment in
    let w = after_note v (note_view seen) in
    let old = r.each id v at in
    let note : get_elem? table.views other ≡ some (note_view seen) = sym (set_else table.views id other w apart) ∙ there in
    let own : IsView m id w = record {
      seats = old.seats;
      told = (r.each other (note_view seen) note).told;
      stage = old.stage;
      seated = old.seated;
      most = old.most;
      deals = old.deals;
    } in
    let first = replaced key table r id v w at own refl refl refl refl (λ n has. has) in
    replaced key (record { words = table.words; homes = table.homes; views = set table.views id w }) first other (note_view seen) (note_view []) there
    (note_is m other [] (older_nil m.history)) refl refl refl refl (λ n has. has)

-- the moment after a seat's number came to the view at this place
moving : Moment → ℕ → ℕ → Moment
moving m number place = record {
  history = m.history;
  most = m.most;
  drawn = m.drawn;
  served = m.served;
  out = m.out;
  dealt = m.dealt;
  dealer = m.dealer;
  owner = λ n. if n == number then place else m.owner n;
  holder = m.holder;
}

-- a stage is as before where a seat changed hands
stage_moved : (m : Moment) (number place j : ℕ) (stage : GateStage) → IsStage m j stage → IsStage (moving m number place) j stage
unfolding moving
stage_moved m number place j Idle is = tt
stage_moved m number place j (Queued ticket) is = is
stage_moved m number place j (Served ticket history) is = is

-- a view that has a seat takes over a seat that asks for nothing, whose view is spent
pub gathers : (key : HallLimits) (id : ℕ) (v : View) (other number : ℕ) (seen : List Entry) (most : ℕ) → 0 < length v.seats
    → Joins (IsGated key) id v other (seat_view number seen most) (with_seats v (seat_view number seen most)) (note_view [])
unfolding moving
gathers key id v other number seen most some_seat table r at apart there =
    let m = r.moment in
    let u = seat_view number seen most in
    let w = with_seats v u in
    let m' = moving m number id in
    let at_other : get_elem? table.views other ≡ some u = sym (set_else table.views id other w apart) ∙ there in
    let old = r.each id v at in
    let from = r.each other u at_other in
    let mine : IsHeld m.history m.dealt m.owner other (held number seen) = from.seats.0 in
    let moves : (j k : ℕ) → j ≢ other → k < m.dealt → m.owner k ≡ j → m'.owner k ≡ j =
    λ j k away early owned. rw (ne_eqb k number (λ same. away (sym owned ∙ (ap m.owner same ∙ mine.owned)))) owned in
    let own_number : m'.owner number ≡ id = rw (eq-eqb number number refl) refl in
    let own : IsView m' id w = record {
      seats = joined_held m.history m.dealt m'.owner id v.seats u.seats
          (owned_held m.history m.dealt m.dealt m.owner m'.owner id id v.seats (omega arith) (λ k early owned. moves id k (λ same. apart (sym same)) early owned) old.seats)
          (record { older = mine.older; own = mine.own; dealt = mine.dealt; owned = own_number }, tt);
      told = old.told;
      stage = stage_moved m number id id v.stage old.stage;
      seated = omega (arith, old.seated, length-append v.seats u.seats);
      most = λ _. old.most some_seat;
      deals = old.deals;
    } in
    let spent : IsView m' other (note_view []) = record {
      seats = tt;
      told = older_nil m.history;
      stage = tt;
      seated = omega arith;
      most = λ none. absurd (omega arith);
      deals = λ is. absurd (false≢true is);
    } in
    let first : (j : ℕ) (x : View) → j ≢ other → get_elem? (set table.views id w) j ≡ some x → IsView m' j x =
    λ j x away here. each_set (λ k y. k ≢ other → IsView m' k y) table.views id w (λ _. own) (λ k y elsewhere found away'.
    let was = r.each k y found in record {
      seats = owned_held m.history m.dealt m.dealt m.owner m'.owner k k y.seats (omega arith) (λ n early owned. moves k n away' early owned) was.seats;
      told = was.told;
      stage = stage_moved m number id k y.stage was.stage;
      seated = was.seated;
      most = was.most;
      deals = was.deals;
    }) j x here away in
    let sum : (f : View → ℕ) → sum_by f (set (set table.views id w) other (note_view [])) + f u + f v ≡ sum_by f table.views + f w + f (note_view []) =
    λ f. omega (arith, sum-set f table.views id v w at, sum-set f (set table.views id w) other u (note_view []) there) in
    record {
      moment = m';
      bounds = r.bounds;
      most = r.most;
      words = r.words;
      home = r.home;
      legal = r.legal;
      room = r.room;
      few = r.few;
      fresh = r.fresh;
      each = each_set (IsView m') (set table.views id w) other (note_view []) spent first;
      placed = λ n early. placed_joined table.views id v other u w (note_view []) n at at_other apart (number_first n v.seats u.seats) (number_second n v.seats u.seats) (r.placed n early);
      numbers = omega (arith, sum (λ (x : View). length x.seats), r.numbers, length-append v.seats u.seats);
      tickets = omega (arith, sum (λ (x : View). waits x.stage), r.tickets);
      serving = omega (arith, sum (λ (x : View). serves x.stage), r.serving);
      counted = omega (arith, sum (λ (x : View). made_by x.seats), r.counted, sum_by-append (λ (seat : Held). length (calls_by seat.seen seat.number)) v.seats u.seats);
    }
