-- How a hall is run by loops, or why it is not. Histories have their newest entry first.
use Rattle.std.specs.Prelude.{ℕ, ◌≡◌, ◌≢◌, ◌+◌, ◌-◌, min, ◌==◌, nat_lt, if◌then◌else◌, List, Option, None, Some, IfSome, IsNone, length}
use Rattle.std.specs.List.{All, slice_index_or, sum_by}
use Rattle.desk_core.specs.declared.entry.Entry.{Entry}
use Rattle.desk_core.specs.Desk.{State}
use Rattle.desk_core.specs.Legal.{IsLegal}
use Rattle.desk_core.specs.Past.{past}
use Rattle.desk_core.specs.Watch.{IsOlder}
use Rattle.hall.specs.Seats.{HallState, SeatState, IsSeenIn, own_calls}
use Rattle.hall.specs.TakenBack.{NothingTakenBack}
use Rattle.server.specs.Setup.{SetUpState}
use Rattle.live_run.specs.declared.loops_fault.LoopsFault.{LoopsFault}
use Rattle.live_run.specs.declared.loops_fault.LoopsFault.TheVariants as faults
use Rattle.control.specs.declared.rights.Rights.TheVariants as Rights
use Rattle.control_server.specs.Server.{terms_of}
use Rattle.live_run.specs.declared.ran.SessionPlaces.{SessionPlaces}
use Rattle.live_run.specs.Loops.{SeatsHaveLooked, SeatsAfterRun}
use Rattle.live_run.specs.Sitting.{HasEnded, terms_by}

-- why so many loops can't have seats of their own behind the first; none where they can
abbrev pub loops_fault : ℕ → ℕ → Option LoopsFault
loops_fault loops seats = if loops == 0 then Some faults.NoLoops else (if nat_lt seats (loops + 1) then Some faults.NoSeats else None)

-- why loops that have seats did not run the hall to its end: memory ran out, or seats of the hall were missing
pub data IsLaterFault (made : SetUpState) : LoopsFault → Type 0 where
  NoMemory : IsLaterFault made faults.NoMemory
  SeatsMissing : length made.seats ≢ made.hall.seats → IsLaterFault made faults.SeatsMissing

-- this hall was closed with these seats, all that it has, and this is what was left of it: its history is legal, it goes on from what each
-- seat has seen, with no more entries of that seat, its entries are as many as those that the seats have made, and no crash takes back
-- anything of it that was told
pub record IsClosedBy (hall : HallState) (seats : List SeatState) (desk : State) : Type 0 where
  pub all : length seats ≡ hall.seats
  pub most : desk.max_entries ≡ hall.most
  pub legal : IsLegal (past desk.journal)
  pub seen : All (IsSeenIn (past desk.journal)) seats
  pub taken_back : NothingTakenBack desk seats
  pub counted : length desk.journal ≡ sum_by (λ seat. length (own_calls seat)) seats

-- At most so many loops have looked at this hall, by the seats behind the first. Then all seats came back, and the hall had this
-- history: it is legal, it goes on from what each seat has seen, with no more entries of that seat, and its entries are as many as
-- those that the seats have made
pub record HasRunLoops (hall : HallState) (loops : ℕ) (seats : List SeatState) (history : List Entry) : Type 0 where
  pub after : List SeatState
  pub looked : SeatsHaveLooked loops seats after
  pub all : length after ≡ hall.seats
  pub legal : IsLegal history
  pub seen : All (IsSeenIn history) after
  pub counted : length history ≡ sum_by (λ seat. length (own_calls seat)) after

-- The same where lines of sessions were met by the seats behind the loops', those of the control place by 32 of them at most, and those of
-- the report place by the others: the history of this registry has what the setup made, the changes that lines of the control place asked
-- for, the findings that lines of the report place told, and the fails by which the watchdog brought down what was not heard from, and no
-- others. It goes on from what the first seat had seen, and no crash takes back anything of it that was told
pub record HasRun (kept : Option ℕ) (places places_now : SessionPlaces) (hall : HallState) (loops : ℕ) (seats : List SeatState) (desk : State) : Type 0 where
  pub controlled : ℕ
  pub controlled_are : controlled ≡ min 32 (length seats - (1 + loops))
  pub after : List SeatState
  pub served : SeatsAfterRun kept places.watchdog places_now.watchdog hall.most hall.names loops controlled seats after
  pub all : length after ≡ hall.seats
  pub legal : IsLegal (past desk.journal)
  pub seen : All (IsSeenIn (past desk.journal)) after
  pub taken_back : NothingTakenBack desk after
  pub goes_on : (other : SeatState) → IsOlder (slice_index_or seats 0 other).seen (past desk.journal)
  pub counted : length desk.journal ≡ sum_by (λ seat. length (own_calls seat)) after

-- there is neither a control place nor a report place, and no watchdog
pub record AreNone (places : SessionPlaces) : Type 0 where
  pub control : IsNone places.control
  pub report : IsNone places.report
  pub watchdog : places.watchdog ≡ None

-- both have come back, if they were there, and hold no connection any more
pub record HaveEnded (old new : SessionPlaces) : Type 0 where
  pub control : HasEnded old.control new.control
  pub report : HasEnded old.report new.report

-- sessions of the control place may ask for all that there is, and those of the report place may report
pub record HaveTerms (most : ℕ) (places : SessionPlaces) : Type 0 where
  pub control : IfSome places.control (λ server. terms_of server ≡ terms_by Rights.All most)
  pub report : IfSome places.report (λ server. terms_of server ≡ terms_by Rights.Reports most)
