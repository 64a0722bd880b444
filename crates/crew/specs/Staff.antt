-- What a crew is made of before it begins, and what it has when it is done.
use Rattle.std.specs.Prelude.{ℕ, ◌≡◌, ◌≤◌, ◌+◌, List, [], ◌++◌, map, vec_len, vec_capacity}
use Rattle.std.specs.List.{All, flat_map}
use Rattle.std.specs.Vec.Iter.{into_iter_items, into_iter_len}
use Rattle.desk_core.specs.declared.order.Order.{Order}
use Rattle.hall.specs.Seats.{SeatState}
use Rattle.crew.specs.declared.call_end.CallEnd.{CallEnd}
use Rattle.crew.specs.declared.staff.Left.{Left}
use Rattle.crew.specs.declared.staff.Staff.{Staff}
use Rattle.crew.specs.declared.worker.Worker.{Worker}
use Rattle.crew.specs.CommandRun.{IsEquipped}

-- all seats of a staff: the workers', the command runs', and those that are spare
abbrev pub seats_of : {P : Type 0} → Staff P → List SeatState
seats_of staff = map (λ worker. worker.seat) staff.workers.items ++ (map (λ run. run.seat) staff.runs.items ++ into_iter_items staff.spare)

-- what its command runs are to carry out
abbrev pub orders_of : {P : Type 0} → Staff P → List (List Order)
orders_of staff = map (λ run. run.commands.orders.items) staff.runs.items

-- all that the workers have reported, one worker's reports behind another's
abbrev pub reports_of : {P : Type 0} → List (Worker P) → List (ℕ × CallEnd)
reports_of workers = flat_map (λ worker. worker.ends.items) workers

-- the buffers are empty, and have room for so many seats and lists of results
pub record IsEmptyFor {P : Type 0} (places lists : ℕ) (left : Left P) : Type 0 where
  pub no_seats : left.seats.items ≡ []
  pub seats : places ≤ vec_capacity left.seats
  pub no_results : left.results.items ≡ []
  pub results : lists ≤ vec_capacity left.results
  pub no_ends : left.ends.items ≡ []

-- nobody, with room for so many workers, lists and seats
pub record IsVacant {P : Type 0} (count lists places : ℕ) (staff : Staff P) : Type 0 where
  pub no_workers : staff.workers.items ≡ []
  pub workers : count ≤ vec_capacity staff.workers
  pub no_runs : staff.runs.items ≡ []
  pub runs : lists ≤ vec_capacity staff.runs
  pub left : IsEmptyFor places lists staff.left

-- a staff has all the memory that it takes: for the result of each order, and to give everything back
pub record HasMemory {P : Type 0} (staff : Staff P) : Type 0 where
  pub lists : All (λ run. IsEquipped run.commands) staff.runs.items
  pub left : IsEmptyFor (vec_len staff.workers + (vec_len staff.runs + into_iter_len staff.spare)) (vec_len staff.runs) staff.left

-- a staff of these seats has so many workers, and its command runs are to carry out these lists
pub record IsStaffOf {P : Type 0} (count : ℕ) (asked : List (List Order)) (places : List SeatState) (staff : Staff P) : Type 0 where
  pub seats : seats_of staff ≡ places
  pub workers : vec_len staff.workers ≡ count
  pub lists : orders_of staff ≡ asked
  pub memory : HasMemory staff
