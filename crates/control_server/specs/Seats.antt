-- The seats that sessions use, and what has become of them.
use Rattle.std.specs.Prelude.{ℕ, ◌≡◌, ◌≢◌, ◌<◌, List, Option, length}
use Rattle.std.specs.List.{slice_index_or}
use Rattle.hall.specs.Seats.{SeatState}
use Rattle.control.specs.declared.answer.Answer.{Answer}
use Rattle.control.specs.declared.terms.Terms.{Terms}
use Rattle.control_server.specs.SeatLines.{HasMet}

-- some lines were met by the seat, one after the other, by these terms; of what it has seen so many entries are kept
pub record MetLines (kept : Option ℕ) (terms : Terms) (names : List (List ℕ)) (old new : SeatState) : Type 0 where
  pub lines : List (List ℕ)
  pub answers : List Answer
  pub met : HasMet kept terms names old new lines answers

-- by each of these seats
pub record SeatsHaveMet (kept : Option ℕ) (terms : Terms) (names : List (List ℕ)) (old new : List SeatState) : Type 0 where
  pub count : length new ≡ length old
  pub each : (place : ℕ) (other : SeatState) → place < length old → MetLines kept terms names (slice_index_or old place other) (slice_index_or new place other)

-- none of the seats has changed but that of this key
abbrev pub IsByKey : ℕ → List SeatState → List SeatState → Type 0
IsByKey key old new = (place : ℕ) (other : SeatState) → place ≢ key → slice_index_or new place other ≡ slice_index_or old place other
