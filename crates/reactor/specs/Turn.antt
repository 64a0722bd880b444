-- A turn of a conversation: what it moves while nothing makes it wait, and how it leaves its machine.
use Rattle.std.specs.Prelude.{Bool, ℕ, ◌≡◌, ◌≢◌, ◌≤◌, ◌<◌, ◌⊎◌, true, IfSome, Option, List, [], length}
use Rattle.std.specs.Io.KnownBytes.{Appends, Consumes, IsAtEnd}
use Rattle.web_call.specs.declared.exchanging.Why.{Why}
use Rattle.web_call.specs.declared.exchanging.Why.TheVariants as whys
use Rattle.web_call.specs.Answer.{Source}
use Rattle.reactor.specs.declared.host.Step.{Step}
use Rattle.reactor.specs.declared.host.Step.TheVariants as steps
use Rattle.reactor.specs.declared.link.Last.{Last}
use Rattle.reactor.specs.declared.link.Last.TheVariants.{Went, Waits, Interrupted, Ended, Failed}
use Rattle.reactor.specs.declared.link.Link.{Link}
use Rattle.reactor.specs.declared.turning.Fate.{Fate}
use Rattle.reactor.specs.declared.turning.Fate.TheVariants.{Rests, GoesOn, Done, GivenUp}
use Rattle.reactor.specs.declared.turning.Piece.{Piece}
use Rattle.reactor.specs.declared.turning.Piece.TheVariants as pieces
use Rattle.reactor.specs.Link.{link_reads, link_stream}
use Rattle.reactor.specs.Moved.{Moved, done_by, followed_by, nothing_moved, only_read, only_stepped}

-- what a step of a host that answers from this moves: it has taken one where the machine went on, or was told all that there is
abbrev pub stepped : Source → Step → Moved
stepped source steps.Went = only_stepped source
stepped source steps.Wants = nothing_moved
stepped source steps.Rests = only_stepped source
stepped source steps.Done = nothing_moved
stepped source steps.Starved = nothing_moved

-- how a step leaves the machine: nothing is left to answer and to send, and it takes bytes; it has been told all, and waits for a change; it is done; or an allocation failed
abbrev pub LeavesAt : {M : Type 0} (takes : M → ℕ) (waiting : M → List ℕ) (idle rests is_done is_starved : M → Type 0) → Step → M → Type 0
LeavesAt takes waiting idle rests is_done is_starved steps.Went machine = Unit {0}
LeavesAt takes waiting idle rests is_done is_starved steps.Wants machine = idle machine × (0 < takes machine) × (waiting machine ≡ [])
LeavesAt takes waiting idle rests is_done is_starved steps.Rests machine = rests machine × (waiting machine ≡ [])
LeavesAt takes waiting idle rests is_done is_starved steps.Done machine = is_done machine × (waiting machine ≡ [])
LeavesAt takes waiting idle rests is_done is_starved steps.Starved machine = is_starved machine

-- the fate of a machine that wants to read or to write, by how its link ended
abbrev pub fate_of : Why → Last → Fate
fate_of why Went = GoesOn
fate_of why Waits = Rests
fate_of why Interrupted = GoesOn
fate_of why Ended = GivenUp why
fate_of why Failed = GivenUp why

-- nothing is left to answer and to send, bytes are wanted, and the last read ended in this way
pub record Wants (idle : Type 0) (takes : ℕ) (waiting : List ℕ) (reads last : Last) : Type 0 where
  pub is_idle : idle
  pub wanted : 0 < takes
  pub all_sent : waiting ≡ []
  pub ends : reads ≡ last

-- bytes are left to send, and the last write ended in this way
pub record Owes (waiting : List ℕ) (writes last : Last) : Type 0 where
  pub left : waiting ≢ []
  pub ends : writes ≡ last

-- how a turn leaves its machine, by its fate
module _ {M : Type 0} (takes : M → ℕ) (waiting : M → List ℕ) (idle rests is_done is_starved : M → Type 0) (reads writes : Last) (machine : M) (moved : Moved) where
  abbrev pub GivesUp : Why → Type 0
  GivesUp whys.Read = Wants (idle machine) (takes machine) (waiting machine) reads Ended ⊎ Wants (idle machine) (takes machine) (waiting machine) reads Failed
  GivesUp whys.Write = Owes (waiting machine) writes Ended ⊎ Owes (waiting machine) writes Failed
  GivesUp whys.NoMemory = is_starved machine

  abbrev pub Leaves : Fate → Type 0
  Leaves Rests = Wants (idle machine) (takes machine) (waiting machine) reads Waits ⊎ Owes (waiting machine) writes Waits ⊎ (rests machine × (waiting machine ≡ []))
  Leaves GoesOn = Wants (idle machine) (takes machine) (waiting machine) reads Interrupted ⊎ Owes (waiting machine) writes Interrupted ⊎ (64 ≤ done_by moved)
  Leaves Done = is_done machine × (waiting machine ≡ [])
  Leaves (GivenUp why) = GivesUp why

-- bytes were read and given to the machine, but for so many behind what it takes, and its past has grown by them
pub record HasRead {M : Type 0} (input input_now : Option (List ℕ)) (moves : M → M → Moved → Type 0) (is_closed : M → Bool) (machine machine_now : M)
    (past past_now : Moved) (bytes : List ℕ) (behind : ℕ) : Type 0 where
  pub some : 0 < length bytes
  pub has_read : Consumes input input_now bytes
  pub moved : moves machine machine_now (only_read bytes behind)
  pub grows : past_now ≡ followed_by past (only_read bytes behind)
  pub closed : 0 < behind → is_closed machine_now ≡ true

-- what went over the link is what the machine moved over its host, and its past has grown by it; where the machine was told that its input
-- is at its end, it has read all of it
pub record HasMoved {S H M : Type 0} (remaining contents : S → Option (List ℕ)) (moves : H → H → M → M → Moved → Type 0) (link link_now : Link S)
    (host host_now : H) (machine machine_now : M) (past past_now moved : Moved) : Type 0 where
  pub has_read : Consumes (remaining (link_stream link)) (remaining (link_stream link_now)) moved.read
  pub wrote : Appends (contents (link_stream link)) (contents (link_stream link_now)) moved.sent
  pub goes : moves host host_now machine machine_now moved
  pub grows : past_now ≡ followed_by past moved
  pub at_end : 0 < moved.ends → IfSome (remaining (link_stream link)) (λ bytes. bytes ≡ moved.read)

-- a read that found the end of the input found it
abbrev pub FindsEnd : {S : Type 0} → (S → Option (List ℕ)) → Link S → Type 0
FindsEnd remaining link = link_reads link ≡ Ended → IsAtEnd (remaining (link_stream link))

-- a piece of work: it has moved something, or bytes came behind what is wanted, or it stops the turn
abbrev pub HasWorked : {M : Type 0} (takes : M → ℕ) (waiting : M → List ℕ) (idle rests is_done is_starved : M → Type 0) (is_closed : M → Bool) → Piece → Last → Last → M → Moved → Type 0
HasWorked takes waiting idle rests is_done is_starved is_closed pieces.Went r w machine moved = (0 < done_by moved) × (moved.behind ≡ 0)
HasWorked takes waiting idle rests is_done is_starved is_closed pieces.Followed r w machine moved = (0 < moved.behind) × (0 < done_by moved) × (is_closed machine ≡ true)
HasWorked takes waiting idle rests is_done is_starved is_closed (pieces.Stops fate) r w machine moved =
    Leaves takes waiting idle rests is_done is_starved r w machine moved fate × (moved.behind ≡ 0)
