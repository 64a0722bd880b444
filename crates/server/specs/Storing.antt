-- A store for a hall that is set up.
use Rattle.std.specs.Prelude.{◌≤◌, Option, List}
use Rattle.desk_core.specs.declared.call.Call.{Call}
use Rattle.desk_core.specs.declared.entry.Entry.{Entry}
use Rattle.desk_core.specs.Left.{Left, Holds}
use Rattle.hall.specs.Seats.{new_seats}
use Rattle.hall.specs.CarriedOut.{replied}
use Rattle.server.specs.Setup.{AreSetUp, SetUpState}

-- the first seat alone was asked for changes, and the store has the entries of those that got a reply, which no crash takes back
pub record HasItsEntries {K : Type 0} (stands : K → List Entry → Type 0) (left : K → Left) (store : K) (made : SetUpState) : Type 0 where
  pub some : 1 ≤ made.hall.seats
  pub calls : List (Option Call)
  pub set_up : AreSetUp calls made.results (new_seats made.hall.table made.hall.most made.hall.seats) made.seats
  pub stands_for : stands store (replied 0 calls made.results)
  pub holds : Holds (left store) (replied 0 calls made.results)
