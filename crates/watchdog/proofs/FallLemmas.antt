-- Fails of a seat, one more at a time.
use Rattle.std.proofs.Common.{◌≡◌, ℕ, Bool, true, false, Some, ap, ◌∙◌}
use Rattle.std.specs.Prelude.{Option, Result, Ok, Err, is_err}
use Rattle.desk_core.specs.declared.call.Call.TheVariants.{Observe}
use Rattle.desk_core.specs.declared.call.Finding.TheVariants.{Fail}
use Rattle.desk_core.specs.declared.refusal.Refusal.{Refusal}
use Rattle.desk_core.specs.declared.reply.Reply.{Reply}
use Rattle.desk_core.specs.Silence.{is_to_fail}
use Rattle.hall.specs.Looking.{HasLooked}
use Rattle.hall.specs.Seats.{GoesOn, HallState, IsCarriedOut, IsOf, SeatState, own_calls}
use Rattle.hall.specs.Silence.{seen_before}
use Rattle.watchdog.specs.Falling.{HaveFailed, OneMore, HasFallen, WasRefused}

-- a seat that goes on without a change of its own has looked
pub looked_of : (old new : SeatState) → GoesOn old new → own_calls new ≡ own_calls old → HasLooked old new
looked_of old new goes kept = record { same = goes.same; begins = goes.begins; own = kept }

-- a seat that goes on is still the hall's
pub gone_of : (hall : HallState) (old new : SeatState) → IsOf hall old → GoesOn old new → IsOf hall new
gone_of hall old new ours goes = record {
  table = ap (λ (seat : SeatState). seat.table) goes.same ∙ ours.table;
  most = ap (λ (seat : SeatState). seat.most) goes.same ∙ ours.most;
}

-- a fail was refused
pub refused_of : (kept : Option ℕ) (slot from : ℕ) (old between new : SeatState) (made : Bool) (result : Result Reply Refusal) → HaveFailed kept slot from old between made
    → IsCarriedOut between new (Some (Observe slot Fail)) result → is_err result ≡ true → HasFallen kept slot from old new made true
refused_of kept slot from old between new made (Ok reply) failed carried is = let never : false ≡ true = is in cc
refused_of kept slot from old between new made (Err refusal) failed carried is = WasRefused between refusal failed carried

-- or was made
pub failed_more : (kept : Option ℕ) (slot from : ℕ) (old between new : SeatState) (made : Bool) (result : Result Reply Refusal) → HaveFailed kept slot from old between made
    → IsCarriedOut between new (Some (Observe slot Fail)) result → is_err result ≡ false → is_to_fail kept between.number slot from (seen_before result new.seen) ≡ true
    → HaveFailed kept slot from old new true
failed_more kept slot from old between new made (Ok reply) failed carried is due = OneMore old between new made reply failed carried due
failed_more kept slot from old between new made (Err refusal) failed carried is due = let never : true ≡ false = is in cc
