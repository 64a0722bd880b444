-- What a server has done when it ends. Histories have their newest entry first.
use Rattle.std.specs.Prelude.{ℕ, ◌≡◌, List, [], ◌∷◌, length, Result}
use Rattle.std.specs.List.{All, sum_by}
use Rattle.crew.specs.declared.crew_why.CrewWhy.{CrewWhy}
use Rattle.crew.specs.declared.crew_why.CrewWhy.TheVariants as whys
use Rattle.desk_core.specs.declared.entry.Entry.{Entry}
use Rattle.desk_core.specs.declared.order.Order.{Order}
use Rattle.desk_core.specs.declared.refusal.Refusal.{Refusal}
use Rattle.desk_core.specs.declared.reply.Reply.{Reply}
use Rattle.desk_core.specs.Legal.{IsLegal}
use Rattle.hall.specs.Seats.{HallState, SeatState, IsSeenIn, own_calls}
use Rattle.crew.specs.Serve.{CrewHasServed}
use Rattle.server.specs.declared.serve_fault.ServeFault.{ServeFault}
use Rattle.server.specs.declared.serve_fault.ServeFault.TheVariants.{Crew, NoMemory}

-- A crew of so many workers has served over this hall, and has made these orders as its one list, with these results. Then all seats
-- came back, and the hall had this history: it is legal, it goes on from what each seat has seen, with no more entries of that seat, and
-- its entries are as many as those that the seats have made
pub record HasServedOrders (hall : HallState) (workers : ℕ) (orders : List Order) (results : List (Result Reply Refusal)) (seats : List SeatState)
    (history : List Entry) : Type 0 where
  pub after : List SeatState
  pub served : CrewHasServed hall.names workers (orders ∷ []) (results ∷ []) seats after
  pub all : length after ≡ hall.seats
  pub legal : IsLegal history
  pub seen : All (IsSeenIn history) after
  pub counted : length history ≡ sum_by (λ seat. length (own_calls seat)) after

-- the fault of a server whose crew has no report
abbrev pub fault_of : CrewWhy → ServeFault
fault_of whys.NoWorkers = Crew whys.NoWorkers
fault_of whys.NoSeats = Crew whys.NoSeats
fault_of whys.Stranger = Crew whys.Stranger
fault_of whys.Doubled = Crew whys.Doubled
fault_of whys.Lost = Crew whys.Lost
fault_of whys.NoMemory = NoMemory
