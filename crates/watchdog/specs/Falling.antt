-- How a service is brought down that was not heard from: by fails of the watchdog's seat, as ordinary changes one after the other.
use Rattle.std.specs.Prelude.{ℕ, ◌≡◌, Bool, true, false, Option, Some, drop, Ok, Err}
use Rattle.desk_core.specs.declared.call.Call.TheVariants.{Observe}
use Rattle.desk_core.specs.declared.call.Finding.TheVariants.{Fail}
use Rattle.desk_core.specs.declared.refusal.Refusal.{Refusal}
use Rattle.desk_core.specs.declared.reply.Reply.{Reply}
use Rattle.desk_core.specs.Silence.{is_to_fail}
use Rattle.hall.specs.Looking.{HasLooked}
use Rattle.hall.specs.Seats.{SeatState, IsCarriedOut}

-- fails of the slot were made by a seat, or none, each where one was to be made of what was seen up to this place of the journal
pub data HaveFailed (kept : Option ℕ) (slot from : ℕ) : SeatState → SeatState → Bool → Type 0 where
  NoFail : (seat : SeatState) → HaveFailed kept slot from seat seat false
  OneMore : (old between new : SeatState) (made : Bool) (reply : Reply) → HaveFailed kept slot from old between made
      → IsCarriedOut between new (Some (Observe slot Fail)) (Ok reply) → is_to_fail kept between.number slot from (drop 1 new.seen) ≡ true
      → HaveFailed kept slot from old new true

-- fails were made until none was to be made any more, or one was refused
pub data HasFallen (kept : Option ℕ) (slot from : ℕ) (old new : SeatState) (made : Bool) : Bool → Type 0 where
  Down : (between : SeatState) → HaveFailed kept slot from old between made → HasLooked between new → is_to_fail kept between.number slot from new.seen ≡ false
      → HasFallen kept slot from old new made false
  WasRefused : (between : SeatState) (refusal : Refusal) → HaveFailed kept slot from old between made
      → IsCarriedOut between new (Some (Observe slot Fail)) (Err refusal) → HasFallen kept slot from old new made true
