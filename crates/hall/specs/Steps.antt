-- What each step on the words of a hall tells the seat that makes it: of the seat before, the number found and the seat after.
use Rattle.std.specs.Prelude.{◌≡◌, ◌≢◌, ℕ, ◌%◌, ◌^◌, ◌<◌, ◌≤◌, List, [], ◌∷◌, length, Option, Some, None}
use Rattle.atomic_table.specs.Table.{Me, rest}
use Rattle.atomic_table.specs.Seated.{TableId}
use Rattle.desk_core.specs.declared.entry.Entry.{Entry}
use Rattle.desk_core.specs.Board.{board_of}
use Rattle.desk_core.specs.Desk.{State}
use Rattle.desk_core.specs.Legal.{IsLegal}
use Rattle.desk_core.specs.Past.{past}
use Rattle.desk_core.specs.Seats.{calls_by}
use Rattle.desk_core.specs.Watch.{IsOlder}
use Rattle.hall.specs.declared.view.Held.{Held}
use Rattle.hall.specs.declared.view.GateStage.{GateStage}
use Rattle.hall.specs.declared.view.GateStage.TheVariants.{Idle, Queued, Served}
use Rattle.hall.specs.declared.view.View.{View}
use Rattle.hall.specs.Views.{at_stage, after_look, after_commit, seen_of, seat_view, desk_view}

-- a seat, with what it holds of the desk
abbrev pub Seated : Type 0
Seated = Me (Option State) View

-- Drawing a ticket: the seat waits for one, which was found modulo 2^64
abbrev pub Drawn : Seated → ℕ → Seated → Type 0
Drawn seat found after =
    (ticket : ℕ) × (found ≡ ticket % 2 ^ 64) × (after ≡ (at_stage seat.0 (Queued ticket), seat.1))

-- the desk is this seat's, with this history
abbrev pub HasTurn : Seated → ℕ → Seated → Type 0
HasTurn seat ticket after =
    (history : List Entry) × (desk : State) × (past desk.journal ≡ history) × (desk.max_entries ≡ seat.0.most)
    × (after ≡ (at_stage seat.0 (Served ticket history), (0, Some desk) ∷ seat.1))

-- Looking at the ticket served: where it is the seat's, the seat takes the desk
abbrev pub Turned : Seated → ℕ → Seated → Type 0
Turned seat found after = (ticket : ℕ) → seat.0.stage ≡ Queued ticket
    → (found ≡ ticket % 2 ^ 64 → HasTurn seat ticket after) × (found ≢ ticket % 2 ^ 64 → after ≡ seat)

-- each of the seats saw this history up to some point, after which it has no entries of the seat
abbrev pub AllBegin : List Entry → List Held → Type 0
AllBegin history [] = Unit {0}
AllBegin history (seat ∷ seats) =
    IsOlder seat.seen history × (calls_by history seat.number ≡ calls_by seat.seen seat.number) × AllBegin history seats

-- a desk in hand has this history
abbrev pub HasOut : List Entry → GateStage → Type 0
HasOut history Idle = Unit {0}
HasOut history (Queued ticket) = Unit {0}
HasOut history (Served ticket out) = out ≡ history

-- Reading the board: the seat has seen the history as it is
pub record Looks (history : List Entry) (seat : Seated) (found : ℕ) (after : Seated) : Type 0 where
  pub board : found ≡ board_of history
  pub sees : after ≡ (after_look history seat.0, seat.1)
  pub legal : IsLegal history
  pub seats : AllBegin history seat.0.seats
  pub told : IsOlder seat.0.told history
  pub out : HasOut history seat.0.stage
  pub room : 0 < length seat.0.seats → length history ≤ seat.0.most
  pub limit : length history < 2 ^ 32

-- a seat that has read the board has seen some history in full
abbrev pub Looked : Seated → ℕ → Seated → Type 0
Looked seat found after = (history : List Entry) × Looks history seat found after

-- A commit: the seat has seen one more entry, the newest, which is its own
abbrev pub Committed : Entry → Seated → ℕ → Seated → Type 0
Committed entry seat found after = after ≡ (after_commit entry seat.0, seat.1)

-- Passing the turn: the ticket is gone, and the desk at home
abbrev pub Passed : Seated → ℕ → Seated → Type 0
Passed seat found after = after ≡ (at_stage seat.0 Idle, rest seat.1)

-- the number of the first of the seats
abbrev pub number_of : List Held → ℕ
number_of [] = 0
number_of (seat ∷ seats) = seat.number

-- the number of a seat
abbrev pub number_in : Seated → ℕ
number_in seat = number_of seat.0.seats

-- what a seat has seen
abbrev pub seen_in : Seated → List Entry
seen_in seat = seen_of seat.0.seats

-- the seat asks for nothing, and holds nothing
abbrev pub Rests : Seated → Type 0
Rests seat = seat ≡ (seat_view (number_in seat) (seen_in seat) seat.0.most, [])

-- the seat has taken the desk, whose history it has seen
abbrev pub HasDesk : Seated → ℕ → ℕ → List Entry → Type 0
HasDesk seat number most history =
    (ticket : ℕ) × (seat ≡ (desk_view number history most ticket history, (0, None) ∷ []))

-- the table has the words and the slot of a hall
abbrev pub IsHall : TableId → Type 0
IsHall table = (table.words ≡ 3) × (table.slots ≡ 1)

-- A history that goes on where one that a seat has seen ends, with no more entries of that seat
pub record Follows (number : ℕ) (seen history : List Entry) : Type 0 where
  pub begins : IsOlder seen history
  pub own : calls_by history number ≡ calls_by seen number
  pub legal : IsLegal history
  pub limit : length history < 2 ^ 32

-- what a seat keeps: it asks for nothing, its history is legal, and it counts its own entries there
pub record IsSeat (seat : Seated) (number made : ℕ) : Type 0 where
  pub rests : seat ≡ (seat_view number (seen_in seat) seat.0.most, [])
  pub made_is : made ≡ length (calls_by (seen_in seat) number)
  pub legal : IsLegal (seen_in seat)
