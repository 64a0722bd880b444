-- Sessions at a place, each with one of the place's seats.
use Rattle.std.specs.Prelude.{ℕ, ◌≡◌, ◌↔◌, List, Option, IfSome, IsNone, IsSome}
use Rattle.reactor.specs.Table.{held_count}
use Rattle.hall.specs.Seats.{SeatState}
use Rattle.control.specs.declared.rights.Rights.{Rights}
use Rattle.control.specs.declared.terms.Terms.{Terms}
use Rattle.control_server.specs.Seats.{SeatsHaveMet}
use Rattle.control_server.specs.Server.{sessions_of}
use Rattle.control_server.specs.declared.control_server.ControlServer.{ControlServer}

-- what holds for sessions with these rights, over a history of at most so many entries
abbrev pub terms_by : Rights → ℕ → Terms
terms_by rights most = record { rights = rights; most = most }

-- the loop over sessions has come back, if there was one, and holds no connection any more
pub record HasEnded (old new : Option ControlServer) : Type 0 where
  pub back : IsSome new ↔ IsSome old
  pub none_left : IfSome new (λ server. held_count (sessions_of server) ≡ 0)

-- By each of the seats lines were met, by these terms, one after the other, so many entries being kept; where there is nobody to hold
-- sessions, nothing was done. Who held sessions has come back
pub record HasSat (kept : Option ℕ) (terms : Terms) (names : List (List ℕ)) (server : Option ControlServer) (seats : List SeatState) (server_now : Option ControlServer) (seats_now : List SeatState) : Type 0 where
  pub met : SeatsHaveMet kept terms names seats seats_now
  pub still : IsNone server → seats_now ≡ seats
  pub ended : HasEnded server server_now
