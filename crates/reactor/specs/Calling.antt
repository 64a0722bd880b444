-- A call as a machine, held over a door.
use Rattle.std.specs.Prelude.{ℕ, ◌≡◌, ◌≤◌, ◌<◌, ◌+◌, ◌⊎◌, ◌++◌, true, false, if◌then◌else◌, is_some, Some, List, [], length, All}
use Rattle.std.specs.Int.{from_bool}
use Rattle.desk_core.specs.declared.entry.Entry.{Entry}
use Rattle.desk_core.specs.Legal.{IsLegal}
use Rattle.desk_core.specs.Watch.{last_of}
use Rattle.web_call.specs.declared.bell.Turn.{Turn}
use Rattle.web_call.specs.declared.bell.Turn.TheVariants.{Look, End}
use Rattle.web_call.specs.declared.call.Call.{Call}
use Rattle.web_call.specs.declared.outcome.Outcome.TheVariants.{Watched}
use Rattle.web_call.specs.Answer.{Source}
use Rattle.web_call.specs.Past.{Past, CarriesFor, Stands}
use Rattle.web_call.specs.Stages.{IsPast, ending_of, is_open, is_starved, is_watching, may_ask, outcome_of}
use Rattle.web_call.specs.Walk.{AsksDoor, InTurn}
use Rattle.reactor.specs.Moved.{Moved}

-- how many bytes a call takes: more than a request may have, so that the read that takes its end takes what has come behind it by turn
abbrev pub taken_by : Call → ℕ
taken_by call = if is_open call then 16640 else 0

-- a past that has grown
abbrev pub grown : List ℕ → List ℕ → List (List Entry) → Past → Past
grown received sent asked past = record { received = past.received ++ received; sent = past.sent ++ sent; asked = past.asked ++ asked }

-- over each of these sources, whatever its past was, the call has grown by a front of what was read, by what was sent, and by the histories
-- at which its door was asked; what was read behind that front stands behind its whole request
pub record HasGrown (over : Source → Type 0) (call call_now : Call) (moved : Moved) (asked : List (List Entry)) : Type 0 where
  pub received : List ℕ
  pub behind : List ℕ
  pub is_read : moved.read ≡ received ++ behind
  pub is_behind : moved.behind ≡ length behind
  pub carries : (source : Source) → over source → CarriesFor source call call_now (grown received moved.sent asked)
  pub whole : 0 < moved.behind → is_open call_now ≡ false
  pub no_end : moved.ends ≡ 0
  -- a call that wants no more of its request takes nothing, and never wants more again
  pub closed : is_open call ≡ false → (moved.read ≡ []) × (moved.behind ≡ 0) × (is_open call_now ≡ false)

-- a call that is not ended as a Watch was not, unless it was before
abbrev pub IsNotEnded : Call → Call → Type 0
IsNotEnded call call_now = (messages : ℕ) → ending_of call_now ≡ Some (Watched messages) → ending_of call ≡ Some (Watched messages)

-- how much is ahead of a call apart from what its door is asked: its answer, and its end where it is a Watch
abbrev pub ahead : Call → ℕ
ahead call = may_ask call + may_ask call + from_bool (is_watching call)

-- what a call makes of bytes by itself
pub record HasTaken (call call_now : Call) (moved : Moved) : Type 0 where
  pub has_grown : HasGrown (λ source. Unit {0}) call call_now moved []
  pub asks : may_ask call_now ≤ may_ask call
  pub no_step : moved.steps ≡ []
  pub made : ahead call_now ≤ ahead call
  pub lasts : IsNotEnded call call_now

-- what was moved over the one source is moved over the other too: they are the same, or no step was taken
abbrev pub IsFrom : Source → Source → Moved → Type 0
IsFrom source other moved = (other ≡ source) ⊎ (moved.steps ≡ [])

-- what a door made of a call in a turn: the call has grown by the histories that the door had, and the door is the same. Where a Watch is
-- to end, the door is asked for the request alone; one that is to look is not ended
pub record DoorHasServed {D : Type 0} (source : Source) (seen : D → List Entry) (names : D → List (List ℕ)) (follows : List Entry → List Entry → Type 0)
    (stays : D → D → Type 0) (turn : Turn) (door door_now : D) (call call_now : Call) (moved : Moved) (asked : List (List Entry)) : Type 0 where
  pub has_grown : HasGrown (λ other. IsFrom source other moved) call call_now moved asked
  pub by : All (λ step. step ≡ source) moved.steps
  pub asks : AsksDoor seen follows door door_now asked
  pub same_names : names door_now ≡ names door
  pub same_door : stays door door_now
  pub once : turn ≡ End → length asked + may_ask call_now ≤ may_ask call
  -- each step has answered the request, or found no memory for that, or asked the door, or ended the
  -- Watch
  pub made : length moved.steps + ahead call_now ≤ length asked + ahead call
  pub lasts : turn ≡ Look → IsNotEnded call call_now

-- the call is a Watch that has been told all that its door has seen, and is not to end
pub record HasBeenTold (turn : Turn) (seen : List Entry) (call : Call) : Type 0 where
  pub watching : is_watching call ≡ true
  pub past : IsPast seen call
  pub looks : turn ≡ Look

-- the call is answered, and its outcome stands
abbrev pub IsAnswered : Call → Type 0
IsAnswered call = is_some (outcome_of call) ≡ true

-- an allocation failed
abbrev pub HasStarved : Call → Type 0
HasStarved call = is_starved call ≡ true

-- others have asked the door, or the call has
pub record DoorStays {D : Type 0} (seen : D → List Entry) (names : D → List (List ℕ)) (follows : List Entry → List Entry → Type 0) (stays : D → D → Type 0) (door door_now : D) : Type 0 where
  pub asked : List (List Entry)
  pub asks : AsksDoor seen follows door door_now asked
  pub same_names : names door_now ≡ names door
  pub same_door : stays door door_now

-- what follows a history that follows another follows that one too
abbrev pub IsTransitive : (List Entry → List Entry → Type 0) → Type 0
IsTransitive follows = (a b c : List Entry) → follows a b → follows b c → follows a c

-- the history is this one, or has gone on from it
abbrev pub GoesOnFrom : (List Entry → List Entry → Type 0) → List Entry → List Entry → Type 0
GoesOnFrom follows entries now = (now ≡ entries) ⊎ follows entries now

-- in many turns, since its door had the first history, a call has grown by histories in turn, and the door has this history now
pub record HasSpanned {D : Type 0} (source : Source) (seen : D → List Entry) (names : D → List (List ℕ)) (follows : List Entry → List Entry → Type 0)
    (door door_now : D) (call call_now : Call) (moved : Moved) (asked : List (List Entry)) : Type 0 where
  pub has_grown : HasGrown (λ other. other ≡ source) call call_now moved asked
  pub in_turn : InTurn follows (seen door) asked
  pub goes_on : GoesOnFrom follows (last_of (seen door) asked) (seen door_now)
  pub same_names : names door_now ≡ names door

-- a call that has moved this since it began: it received what was read, but for the bytes behind its whole request; and if it was answered
-- from one source at each step, it stands as one does over that source that has received and sent this, and asked its door at these
-- histories
pub record IsCallOf (past : Moved) (call : Call) : Type 0 where
  pub received : List ℕ
  pub behind : List ℕ
  pub asked : List (List Entry)
  pub is_read : past.read ≡ received ++ behind
  pub is_behind : past.behind ≡ length behind
  pub stands : (source : Source) → All (λ step. step ≡ source) past.steps → Stands source (record { received = received; sent = past.sent; asked = asked }) call
  pub legal : All IsLegal asked
  pub whole : 0 < past.behind → is_open call ≡ false
  pub no_end : past.ends ≡ 0
