-- A seat that did not even look.
use Rattle.std.proofs.Common.{[], refl}
use Rattle.hall.specs.Looking.{HasLooked}
use Rattle.hall.specs.Seats.{SeatState}

-- it has looked at nothing more
pub still : (seat : SeatState) → HasLooked seat seat
still seat = record { same = refl; begins = record { newer = []; is = refl }; own = refl }
