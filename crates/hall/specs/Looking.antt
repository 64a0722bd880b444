-- What a seat that only looks keeps.
use Rattle.std.specs.Prelude.{◌≡◌}
use Rattle.desk_core.specs.Watch.{IsOlder}
use Rattle.hall.specs.Seats.{SeatState, with_seen, own_calls}

-- the seat has at most seen more: its history goes on, and has no more entries of its own
pub record HasLooked (old new : SeatState) : Type 0 where
  pub same : new ≡ with_seen old new.seen
  pub begins : IsOlder old.seen new.seen
  pub own : own_calls new ≡ own_calls old
