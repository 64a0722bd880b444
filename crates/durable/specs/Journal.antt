-- A journal in a file, as whoever begins a run with it sees it.
use Rattle.std.specs.Prelude.{◌≡◌, ℕ, List, Option}
use Rattle.std.specs.List.{All, slice_index_or}
use Rattle.desk_core.specs.declared.call.Call.{Call}
use Rattle.desk_core.specs.declared.entry.Entry.{Entry}
use Rattle.desk_core.specs.Left.{Left, Holds}
use Rattle.desk_core.specs.Past.{past}
use Rattle.hall.specs.CarriedOut.{replied}
use Rattle.hall.specs.Seats.{SeatState, new_seats}
use Rattle.server.specs.Setup.{AreSetUp, SetUpState}

-- the names of its services, those that the file has, what a crash leaves of it, and its entries, the oldest first
pub record JournalState : Type 0 where
  pub names : List (List ℕ)
  pub in_file : List (List ℕ)
  pub left : Left
  pub entries : List Entry

-- these entries are of the first seat
abbrev pub AreOfFirst : List Entry → Type 0
AreOfFirst entries = All (λ entry. entry.seat ≡ 0) entries

-- a store has these entries, which no crash takes back, and they are of the first seat
pub record IsKeptIn (journal : List Entry) (left : Left) (entries : List Entry) : Type 0 where
  pub stands : journal ≡ entries
  pub holds : Holds left entries
  pub seats : AreOfFirst entries

-- the first of these seats has seen these entries, and no others
abbrev pub FirstHasSeen : List SeatState → List Entry → Type 0
FirstHasSeen seats entries = (other : SeatState) → (slice_index_or seats 0 other).seen ≡ past entries

-- the same of the entries by which a hall was set up
abbrev pub FirstHasSeenIts : SetUpState → Type 0
FirstHasSeenIts made = (calls : List (Option Call)) → AreSetUp calls made.results (new_seats made.hall.table made.hall.most made.hall.seats) made.seats
    → FirstHasSeen made.seats (replied 0 calls made.results)
