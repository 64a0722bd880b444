-- Loops on their seats, with the seats beside theirs.
use Rattle.std.specs.Prelude.{◌≡◌, ◌+◌, ◌-◌, ◌≤◌, min, Vec, List, [], ◌++◌, length, map, vec_len, vec_capacity}
use Rattle.std.specs.Global.{Global}
use Rattle.hall.specs.Seats.{SeatState}
use Rattle.live_server.specs.Loop.{EventServer}
use Rattle.live_run.specs.declared.seating.Seating.{Seating}

-- all seats: the first, the loops', those of the control place, and those of the report place
abbrev pub seats_of : {P K : Type 0} → Seating P K → List SeatState
seats_of seating = seating.back.seats.items ++ (map (λ seated. seated.seat) seating.loops.items ++ (seating.control.items ++ seating.report.items))

-- the loops' servers
abbrev pub servers_of : {P K : Type 0} → Seating P K → List EventServer
servers_of seating = map (λ seated. seated.server) seating.loops.items

-- the first seat waits for the others, and there is room for all seats and loops to come back
pub record HasRoom {P K : Type 0} (seating : Seating P K) : Type 0 where
  pub first : length seating.back.seats.items ≡ 1
  pub seats : vec_len seating.back.seats + (vec_len seating.loops + (vec_len seating.control + vec_len seating.report)) ≤ vec_capacity seating.back.seats
  pub no_servers : seating.back.servers.items ≡ []
  pub servers : vec_len seating.loops ≤ vec_capacity seating.back.servers

-- loops with these servers are seated on these seats, and all seats behind theirs are those of the report place
pub record IsUndivided {P K : Type 0} (given : List EventServer) (places : List SeatState) (seating : Seating P K) : Type 0 where
  pub seats : seating.back.seats.items ++ (map (λ seated. seated.seat) seating.loops.items ++ seating.report.items) ≡ places
  pub servers : servers_of seating ≡ given
  pub first : length seating.back.seats.items ≡ 1
  pub room : length places ≤ vec_capacity seating.back.seats
  pub no_servers : seating.back.servers.items ≡ []
  pub room_for_servers : vec_len seating.loops ≤ vec_capacity seating.back.servers

-- the first 32 of these seats, and the others
pub record AreDivided (seats : List SeatState) (both : Vec SeatState Global × Vec SeatState Global) : Type 0 where
  pub all : both.0.items ++ both.1.items ≡ seats
  pub first : vec_len both.0 ≡ min 32 (length seats)

-- loops with these servers are seated on these seats, and the control place has those behind theirs, 32 at most
pub record IsSeatingOf {P K : Type 0} (given : List EventServer) (places : List SeatState) (seating : Seating P K) : Type 0 where
  pub seats : seats_of seating ≡ places
  pub servers : servers_of seating ≡ given
  pub room : HasRoom seating
  pub control_are : vec_len seating.control ≡ min 32 (length places - (1 + length given))
