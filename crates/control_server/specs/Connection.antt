-- A connection of the control place, and what a turn makes of its session. What comes over a socket is not known beforehand: of the bytes
-- that it will give, and of those that it has taken, nothing is said.
use Rattle.std.specs.Prelude.{ℕ, ◌≡◌, List, Option, false}
use Rattle.std.specs.List.{slice_index_or}
use Rattle.control.specs.declared.stream.ControlStream.{ControlStream}
use Rattle.control.specs.declared.terms.Terms.{Terms}
use Rattle.control.specs.Session.{SessionState}
use Rattle.hall.specs.Looking.{HasLooked}
use Rattle.hall.specs.Seats.{SeatState}
use Rattle.reactor.specs.declared.connection.Connection.{Connection}
use Rattle.reactor.specs.contracts.talking.SessionMachine.TheImpl.{ghosts}
use Rattle.reactor.specs.Connection.{may_look_at, state_of}
use Rattle.reactor.specs.Moved.{Moved}
use Rattle.reactor.specs.Talking.{HasSaid}
use Rattle.control_server.specs.SeatLines.{IsMetBySeat}

abbrev pub SessionConnection : Type 0
SessionConnection = Connection ControlStream SessionState ghosts

-- the session of a connection
abbrev pub session_of : SessionConnection → SessionState
session_of connection = (state_of connection).machine

-- a session is told no changes
abbrev pub IsQuiet : SessionConnection → Type 0
IsQuiet connection = may_look_at (λ session. false) (λ session. session.waiting) (state_of connection) ≡ false

-- a session moved this by a seat, which has met its lines by these terms, each with its answer; in between the seat has at most looked. Of
-- what it has seen so many entries are kept
abbrev pub SpeaksBy : Option ℕ → Terms → List (List ℕ) → SeatState → SeatState → SessionState → SessionState → Moved → Type 0
SpeaksBy kept terms names old new session session_now moved = HasSaid HasLooked (IsMetBySeat kept terms names) names old new session session_now moved

-- a session moved this by the seat of this key
abbrev pub SpeaksAt : Option ℕ → Terms → List (List ℕ) → ℕ → List SeatState → List SeatState → SessionState → SessionState → Moved → Type 0
SpeaksAt kept terms names key old new session session_now moved =
    (other : SeatState) → SpeaksBy kept terms names (slice_index_or old key other) (slice_index_or new key other) session session_now moved
