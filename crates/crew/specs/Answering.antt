-- How a worker answers a call: by an exchange, of which its end tells. Each bound is `exchange`'s own.
use Rattle.std.specs.Prelude.{◌≡◌, ◌≢◌, ◌⊎◌, ◌++◌, ℕ, Bool, true, false, Option, Some, None, List, []}
use Rattle.std.specs.Io.KnownBytes.{Appends, Consumes, IsAtEnd}
use Rattle.desk_core.specs.declared.entry.Entry.{Entry}
use Rattle.desk_core.specs.Watch.{IsOlder}
use Rattle.web_call.specs.declared.exchanging.ExchangeFault.{ExchangeFault}
use Rattle.web_call.specs.declared.exchanging.Why.TheVariants as whys
use Rattle.web_call.specs.declared.outcome.Outcome.{Outcome}
use Rattle.web_call.specs.Answer.{Asking, IsAnswered, Sends}
use Rattle.web_call.specs.Exchange.{Meets, ReadsCut, Starves}
use Rattle.web_call.specs.InputHead.{IsHead}
use Rattle.web_call.specs.Pieces.{Piece, text_of, IsCut}
use Rattle.web_call.specs.declared.tap.Tap.{Tap}
use Rattle.web_call.specs.Tap.{tap_inner, tap_failed, tap_idle}
use Rattle.crew.specs.declared.call_end.CallEnd.{CallEnd}
use Rattle.crew.specs.declared.call_end.CallEnd.TheVariants.{Done, Fault, Unopened}
use Rattle.crew.specs.declared.door.HallDoor.{HallDoor}
use Rattle.crew.specs.HallDoor.{door_hall, door_seat}
use Rattle.crew.specs.Ring.{Told}

-- what one end of a call, a reader or a writer, stands at: the bytes that its input has left or its output has got, if they are known,
-- whether a call of it failed, and whether one was of an empty buffer
pub record End : Type 0 where
  pub bytes : Option (List ℕ)
  pub failed : Bool
  pub idle : Bool

-- a call at one moment: its two ends, the door that it asks and the bell that it waits for
pub record Moment (D : Type 0) : Type 0 where
  pub input : End
  pub output : End
  pub door : D
  pub bell : Told

-- the end behind a tap, of which so many bytes are known
abbrev pub end_of : {T : Type 0} → (T → Option (List ℕ)) → Tap T → End
end_of known tap = record { bytes = known (tap_inner tap); failed = tap_failed tap; idle = tap_idle tap }

-- a moment of these ends, this door and this bell
abbrev pub moment : {D : Type 0} → End → End → D → Told → Moment D
moment input output door bell = record { input = input; output = output; door = door; bell = bell }

-- what the door has seen
abbrev pub seen_by : {R P K : Type 0} → HallDoor R P K → List Entry
seen_by door = (door_seat door).seen

-- the door was asked at these histories, and the bell gave a Look for each of them but the first, within so many Looks
abbrev pub MeetsHall : {R P K : Type 0} → ℕ → Moment (HallDoor R P K) → Moment (HallDoor R P K) → List (List Entry) → Option Outcome → Type 0
MeetsHall looks old new asked ending =
    Meets seen_by IsOlder (λ bell. bell.given) (λ bell. bell.is_over) looks old.door new.door old.bell new.bell asked ending

-- a request of this head and body, at these histories, at a hall of a catalogue of these names that forgets nothing
abbrev pub asking_at : List (List ℕ) → List (List Entry) → List ℕ → List ℕ → Asking
asking_at names asked head body = record { source = record { names = names; kept = None; is_plain = false }; asked = asked; head = head; body = body }

-- a request was read to its end and no further, and its whole answer was written
pub record IsDone {R P K : Type 0} (looks : ℕ) (old new : Moment (HallDoor R P K)) (outcome : Outcome) : Type 0 where
  pub head : List ℕ
  pub body : List ℕ
  pub asked : List (List Entry)
  pub pieces : List Piece
  pub is_head : IsHead head
  pub read : Consumes old.input.bytes new.input.bytes (head ++ body)
  pub meets : MeetsHall looks old new asked (Some outcome)
  pub answered : IsAnswered (asking_at (door_hall old.door).names asked head body) pieces outcome
  pub written : Appends old.output.bytes new.output.bytes (text_of pieces)
  pub reads : new.input.failed ≡ old.input.failed
  pub writes : new.output.failed ≡ old.output.failed

-- the reader failed, or ended within the request: nothing was written, and nobody was asked
pub record IsUnread {D : Type 0} (old new : Moment D) (fault : ExchangeFault) : Type 0 where
  pub frames : fault.frames ≡ 0
  pub cause : (new.input.failed ≡ true) ⊎ IsAtEnd new.input.bytes
  pub cut : ReadsCut old.input.bytes new.input.bytes
  pub output : new.output ≡ old.output
  pub door : new.door ≡ old.door
  pub bell : new.bell ≡ old.bell

-- an allocation failed for the head, the body or the response, and nothing was written
pub record IsStarved {R P K : Type 0} (old new : Moment (HallDoor R P K)) (fault : ExchangeFault) : Type 0 where
  pub frames : fault.frames ≡ 0
  pub starves : Starves false seen_by IsOlder old.door new.door old.input.bytes new.input.bytes
  pub output : new.output ≡ old.output
  pub bell : new.bell ≡ old.bell
  pub reads : new.input.failed ≡ old.input.failed

-- the writer failed: of the answer, as far as its turns went, a front was written
pub record IsCutOff {R P K : Type 0} (looks : ℕ) (old new : Moment (HallDoor R P K)) (fault : ExchangeFault) : Type 0 where
  pub cause : new.output.failed ≡ true
  pub reads : new.input.failed ≡ old.input.failed
  pub head : List ℕ
  pub body : List ℕ
  pub asked : List (List Entry)
  pub done : List Piece
  pub part : List Piece
  pub ending : Option Outcome
  pub is_head : IsHead head
  pub read : Consumes old.input.bytes new.input.bytes (head ++ body)
  pub meets : MeetsHall looks old new asked ending
  pub sends : Sends (asking_at (door_hall old.door).names asked head body) done part ending
  pub some : part ≢ []
  pub cut : IsCut done part old.output.bytes new.output.bytes fault.frames

-- a fault is of one of three kinds
pub record IsFault {R P K : Type 0} (looks : ℕ) (old new : Moment (HallDoor R P K)) (fault : ExchangeFault) : Type 0 where
  pub read : fault.why ≡ whys.Read → IsUnread old new fault
  pub no_memory : fault.why ≡ whys.NoMemory → IsStarved old new fault
  pub write : fault.why ≡ whys.Write → IsCutOff looks old new fault

-- the call ended so between these moments, with at most so many Looks
abbrev pub EndsSo : {R P K : Type 0} → ℕ → Moment (HallDoor R P K) → Moment (HallDoor R P K) → CallEnd → Type 0
EndsSo looks old new (Done outcome) = IsDone looks old new outcome
EndsSo looks old new (Fault fault) = IsFault looks old new fault
EndsSo looks old new Unopened = ⊥

-- neither end was given an empty buffer
abbrev pub StaysBusy : {D : Type 0} → Moment D → Moment D → Type 0
StaysBusy old new = (new.input.idle ≡ old.input.idle) × (new.output.idle ≡ old.output.idle)
