-- A store for a hall whose first seat alone has made changes, all of which it has seen.
use Rattle.std.proofs.Common.{◌≡◌, ◌<◌, ◌≤◌, List, length, OnOk, Ok, Err, Option, Result, sym, ap, subst, ◌∙◌, arith}
use Rattle.std.specs.Prelude.{slice_set}
use Rattle.std.specs.List.{slice_index_or}
use Rattle.desk_core.specs.declared.call.Call.{Call}
use Rattle.desk_core.specs.declared.entry.Entry.{Entry}
use Rattle.desk_core.specs.Left.{Left}
use Rattle.desk_core.specs.Past.{past}
use Rattle.hall.specs.Seats.{SeatState, GoesOn, own_calls, new_seats}
use Rattle.hall.specs.CarriedOut.{replied}
use Rattle.server.specs.Setup.{AreSetUp, SetUpState}
use Rattle.server.specs.Storing.{HasItsEntries}
use Rattle.server.proofs.OwnLemmas.{IsFirst, first_of, first_seen, seats_dealt, set_first, stays}

-- what holds whatever came of a call
pub always : {T E X : Type 0} (result : Result T E) → X → OnOk result X
always (Ok value) x = x
always (Err error) x = tt

pub on_ok : {T E X Y : Type 0} (result : Result T E) → (X → Y) → OnOk result X → OnOk result Y
on_ok (Ok value) f x = f x
on_ok (Err error) f none = tt

-- such a hall has a seat
pub some_seats : {K : Type 0} (stands : K → List Entry → Type 0) (left : K → Left) (store : K) (made : SetUpState) (items : List SeatState) → HasItsEntries stands left store made
    → items ≡ made.seats → 0 < length items
some_seats stands left store made items has are =
    omega (arith, seats_dealt made.hall made.hall.most made.hall.seats has.calls made.results made.seats has.set_up, ap length are, has.some)

module _ (made : SetUpState) (some : 1 ≤ made.hall.seats) (items : List SeatState) (are : items ≡ made.seats) (old new : SeatState) (at : old ≡ slice_index_or items 0 old)
    (on : GoesOn old new) (kept : own_calls new ≡ own_calls old) (many : length (own_calls new) ≡ length new.seen) where
  -- the seat has seen no more than before
  pub still : new ≡ old
  still = stays old new on kept many

  module _ (calls : List (Option Call)) (set : AreSetUp calls made.results (new_seats made.hall.table made.hall.most made.hall.seats) made.seats) where
    first : IsFirst calls made.results made.seats set.first
    first = first_of made.hall made.hall.seats calls made.results made.seats some set

    is_first : new ≡ set.first
    is_first = still ∙ (at ∙ (ap (λ (all : List SeatState). slice_index_or all 0 old) are ∙ first.at old))

    -- it has seen the entries of the setup, and no others
    pub seen : new.seen ≡ past (replied 0 calls made.results)
    seen = first_seen calls made.results made.seats new (subst (IsFirst calls made.results made.seats) (sym is_first) first) many

    pub first_has_seen : (other : SeatState) → (slice_index_or made.seats 0 other).seen ≡ past (replied 0 calls made.results)
    first_has_seen other = ap (λ (seat : SeatState). seat.seen) (first.at other ∙ sym is_first) ∙ seen

  -- the hall is as it was, with the seat in its place
  pub same_seats : 0 < length items → slice_set items 0 new ≡ items
  same_seats full = ap (λ (seat : SeatState). slice_set items 0 seat) still ∙ set_first items old full at
