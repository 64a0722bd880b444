-- A connection: a machine and its link, until all is sent, and then what its peer still sends, which is thrown away.
use Rattle.std.specs.Prelude.{Bool, true, false, ◌&&◌, not, ℕ, ◌≡◌, ◌++◌, nat_eq, Option, List, [], length}
use Rattle.std.specs.Io.KnownBytes.{Appends, Consumes}
use Rattle.std.specs.declared.time.Instant.{Instant}
use Rattle.reactor.specs.declared.connection.Connection.{Connection}
use Rattle.reactor.specs.declared.connection.End.TheVariants as ends
use Rattle.reactor.specs.declared.connection.Left.{Left}
use Rattle.reactor.specs.declared.connection.Left.TheVariants as lefts
use Rattle.reactor.specs.Link.{link_stream}
use Rattle.reactor.specs.Moved.{Moved, followed_by}

-- the machine, what was moved since it began, whether its end was reached, whether its last turn could have gone on, and until when it has
-- time
pub record ConnectionState (M : Type 0) : Type 0 where
  pub machine : M
  pub past : Moved
  pub is_draining : Bool
  pub gave_way : Bool
  pub until : Option Instant

abbrev pub state_of : {S M : Type 0} {g : _} → Connection S M g → ConnectionState M
state_of connection = record { machine = connection.machine; past = connection.past.moved; is_draining = connection.is_draining; gave_way = connection.gave_way; until = connection.until }

-- the stream of a connection
abbrev pub stream_of : {S M : Type 0} {g : _} → Connection S M g → S
stream_of connection = link_stream connection.link

-- its machine is told changes as they come
abbrev pub watches_at : {M : Type 0} → (M → Bool) → ConnectionState M → Bool
watches_at watches state = not state.is_draining && watches state.machine

-- the same, and it has sent all, and waits
abbrev pub may_look_at : {M : Type 0} → (M → Bool) → (M → List ℕ) → ConnectionState M → Bool
may_look_at watches waiting state = watches_at watches state && nat_eq (length (waiting state.machine)) 0 && not state.gave_way

-- a turn leaves the connection with nothing more to do
abbrev pub is_over : Left → Bool
is_over lefts.Waits = false
is_over lefts.Ready = false
is_over (lefts.Over end) = true

-- bytes that came in were thrown away, and none went out
pub record HasThrown {S M : Type 0} {g : _} (remaining contents : S → Option (List ℕ)) (old new : Connection S M g) (thrown : List ℕ) : Type 0 where
  pub has_read : Consumes (remaining (stream_of old)) (remaining (stream_of new)) thrown
  pub kept : contents (stream_of new) ≡ contents (stream_of old)

-- a turn of a connection whose machine goes on: what was moved is what the machine moved over its host, its past has grown by it, and behind
-- that bytes may have been thrown away; an end that is told as done is the machine's
pub record ConnectionHasServed {S H M : Type 0} {g : _} (remaining contents : S → Option (List ℕ)) (moves : H → H → M → M → Moved → Type 0) (is_done : M → Type 0) (waiting : M → List ℕ)
    (old new : Connection S M g) (host host_now : H) (left : Left) (moved : Moved) (thrown : List ℕ) : Type 0 where
  pub has_read : Consumes (remaining (stream_of old)) (remaining (stream_of new)) (moved.read ++ thrown)
  pub wrote : Appends (contents (stream_of old)) (contents (stream_of new)) moved.sent
  pub goes : moves host host_now old.machine new.machine moved
  pub grows : new.past.moved ≡ followed_by old.past.moved moved
  pub done : left ≡ lefts.Over ends.Done → is_done new.machine × (waiting new.machine ≡ [])
  pub drains : new.is_draining ≡ true → is_done new.machine × (waiting new.machine ≡ [])
