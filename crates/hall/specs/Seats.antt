-- What contracts see of a hall, its seats and their notes, and what a call leaves of a seat. Histories have their newest entry
-- first, so a history goes on by entries in front of it.
use Rattle.std.specs.Prelude.{◌≡◌, ℕ, Option, None, List, [], map, Result}
use Rattle.std.specs.List.{range_with_len}
use Rattle.atomic_table.specs.Seated.{TableId}
use Rattle.desk_core.specs.declared.call.Call.{Call}
use Rattle.desk_core.specs.declared.entry.Entry.{Entry}
use Rattle.desk_core.specs.declared.refusal.Refusal.{Refusal}
use Rattle.desk_core.specs.declared.reply.Reply.{Reply}
use Rattle.desk_core.specs.Legal.{IsLegal}
use Rattle.desk_core.specs.Mutation.{IsAnswered}
use Rattle.desk_core.specs.Seats.{calls_by}
use Rattle.desk_core.specs.Watch.{IsOlder}
use Rattle.hall.specs.declared.view.Held.{Held}
use Rattle.hall.specs.Views.{held}

-- a hall: which it is, how many entries its journal may have, how many seats it made, and the names of its catalogue
pub record HallState : Type 0 where
  pub table : TableId
  pub most : ℕ
  pub seats : ℕ
  pub names : List (List ℕ)

-- a seat: whose it is, its number, and the history that it has seen
pub record SeatState : Type 0 where
  pub table : TableId
  pub most : ℕ
  pub number : ℕ
  pub seen : List Entry

-- a note: the history that the seat had seen that wrote it
pub record NoteState : Type 0 where
  pub table : TableId
  pub seen : List Entry

-- the seat is this hall's
pub record IsOf (hall : HallState) (seat : SeatState) : Type 0 where
  pub table : seat.table ≡ hall.table
  pub most : seat.most ≡ hall.most

-- a seat's own entries in what it has seen
abbrev pub own_calls : SeatState → List Entry
own_calls seat = calls_by seat.seen seat.number

-- the seat with this history
abbrev pub with_seen : SeatState → List Entry → SeatState
with_seen seat seen = record { table = seat.table; most = seat.most; number = seat.number; seen = seen }

-- a call leaves the seat with a legal history that goes on where the one it had seen ends
pub record GoesOn (old new : SeatState) : Type 0 where
  pub same : new ≡ with_seen old new.seen
  pub begins : IsOlder old.seen new.seen
  pub legal : IsLegal new.seen

-- How a mutation that a seat is asked for is answered, among those of other seats: from a history that goes on where the one that the
-- seat had seen ends, with no more entries of the seat. One whose name is not listed leaves the seat as it is
pub record IsCarriedOut (old new : SeatState) (call : Option Call) (result : Result Reply Refusal) : Type 0 where
  pub before : List Entry
  pub begins : IsOlder old.seen before
  pub own : calls_by before old.number ≡ own_calls old
  pub legal : IsLegal before
  pub same : new ≡ with_seen old new.seen
  pub answer : IsAnswered old.most old.number before new.seen call result
  pub unlisted : call ≡ None → new ≡ old

-- the history goes on from what the seat saw, and has no more entries of the seat
pub record IsSeenIn (history : List Entry) (seat : SeatState) : Type 0 where
  pub begins : IsOlder seat.seen history
  pub own : calls_by history seat.number ≡ own_calls seat

-- a seat, as a view knows it
abbrev pub held_of : SeatState → Held
held_of seat = held seat.number seat.seen

-- the first seats of a hall: numbered from 0, none of which has seen anything
abbrev pub new_seats : TableId → ℕ → ℕ → List SeatState
new_seats table most count = map (λ number. record { table = table; most = most; number = number; seen = [] }) (range_with_len 0 count)
