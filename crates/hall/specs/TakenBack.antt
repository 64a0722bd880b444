-- Nothing that was told is taken back.
use Rattle.std.specs.Prelude.{List}
use Rattle.std.specs.List.{All}
use Rattle.desk_core.specs.declared.entry.Entry.{Entry}
use Rattle.desk_core.specs.Desk.{State}
use Rattle.desk_core.specs.Left.{IsKept}
use Rattle.desk_core.specs.Past.{past}
use Rattle.desk_core.specs.Watch.{IsOlder}
use Rattle.hall.specs.Seats.{SeatState}

-- the history of this journal goes on from what the seat has seen
abbrev pub HasSeen : SeatState → List Entry → Type 0
HasSeen seat journal = IsOlder seat.seen (past journal)

-- A crash now leaves no journal but one that has all that each seat has seen; and at no moment of the run would a crash have taken back
-- anything of the journal that the registry had by then
pub record NothingTakenBack (desk : State) (seats : List SeatState) : Type 0 where
  pub now : All (λ seat. All (HasSeen seat) desk.left.now) seats
  pub ever : All (IsKept desk.journal) desk.left.ever
