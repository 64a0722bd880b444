-- How a script sets a hall up: its lines one after the other, by one seat.
use Rattle.std.specs.Prelude.{◌≡◌, Option, List, Result, slice_set}
use Rattle.std.specs.List.{slice_index_or}
use Rattle.desk_core.specs.declared.call.Call.{Call}
use Rattle.desk_core.specs.declared.order.Order.{Order}
use Rattle.desk_core.specs.declared.refusal.Refusal.{Refusal}
use Rattle.desk_core.specs.declared.reply.Reply.{Reply}
use Rattle.hall.specs.Seats.{HallState, SeatState}
use Rattle.hall.specs.CarriedOut.{HasCarriedOut}

-- a hall that a script has set up: its seats, what came of the script's lines, and the script's orders
pub record SetUpState : Type 0 where
  pub hall : HallState
  pub seats : List SeatState
  pub results : List (Result Reply Refusal)
  pub orders : List Order

-- seats that were dealt out, of which the first was then asked for these changes, with these results
pub record AreSetUp (calls : List (Option Call)) (results : List (Result Reply Refusal)) (dealt seats : List SeatState) : Type 0 where
  pub first : SeatState
  pub met : (other : SeatState) → HasCarriedOut (slice_index_or dealt 0 other) first calls results
  pub others : seats ≡ slice_set dealt 0 first
