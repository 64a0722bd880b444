-- What answers a request (Check and Watch of health.proto and health-checking.md of grpc): the pieces of its response, by the
-- histories that the door had each time it was asked, the newest entry of each first.
use Rattle.std.specs.Prelude.{ℕ, ◌≡◌, Bool, true, false, Option, None, Some, List, [], ◌∷◌, ◌++◌, length, flat_map}
use Rattle.grpc_frame.specs.declared.code.Code.{Code}
use Rattle.grpc_frame.specs.declared.code.Code.TheVariants.{Ok, NotFound}
use Rattle.health_wire.specs.declared.serving.Serving.{Serving}
use Rattle.desk_core.specs.declared.entry.Entry.{Entry}
use Rattle.desk_core.specs.Catalogue.{slot_of}
use Rattle.desk_core.specs.Changes.{changes_of}
use Rattle.desk_core.specs.Status.{shown, status_map}
use Rattle.desk_core.specs.Watch.{IsBehind, answer_of, opened, told}
use Rattle.web_call.specs.declared.method.Method.{Method}
use Rattle.web_call.specs.declared.outcome.Outcome.{Outcome}
use Rattle.web_call.specs.declared.outcome.Outcome.TheVariants.{Http, Status, Watched, Behind, Plain as Plainly}
use Rattle.plain.specs.Answer.{IsInquiryOf, IsLeft, IsTold}
use Rattle.plain.specs.Inquiry.{Asked as AskedPlainly}
use Rattle.web_call.specs.Ask.{Asked as WhatIsAsked, IsAsked, Refused as RefusesBody, Checked as ChecksName, Watched as WatchesName}
use Rattle.web_call.specs.Head.{IsHeaded, is_too_large}
use Rattle.web_call.specs.HeadAnswer.{Refused, Ended, Asked}
use Rattle.web_call.specs.InputHead.{IsHead}
use Rattle.web_call.specs.Pieces.{Piece, plain, counted}
use Rattle.web_call.specs.ResponseTexts.{refusal_pieces, status_pieces, check_pieces, message_chunk, watch_head_text, watch_end}
use Rattle.web_call.specs.Walk.{KeepsUp, told_by, watch_after}

-- the status code of a Check
abbrev pub check_code : Option Serving → Code
check_code None = NotFound
check_code (Some status) = Ok

-- a Watch that told these statuses and has not ended: its head and a chunk for each message
abbrev pub told_pieces : List Serving → List Piece
told_pieces statuses = plain watch_head_text ∷ flat_map message_chunk statuses

-- a watch of the slot that was opened at the first history and stepped at these later ones: what is done, and what is being sent
pub data Tells (slot : Option ℕ) (first : List Entry) : List (List Entry) → List Piece → List Piece → Type 0 where
  -- the head and the first status
  First : Tells slot first [] [] (plain watch_head_text ∷ message_chunk (shown first slot))
  -- what the last step answered, a status or nothing; all before it is done
  Step : (earlier : List (List Entry)) (next : List Entry)
      → Tells slot first (earlier ++ next ∷ []) (told_pieces (told_by slot first earlier))
      (flat_map message_chunk (told (answer_of (changes_of next) (watch_after (opened (changes_of first) slot) earlier))))

-- whence it is answered: the names of the catalogue, how many changes the registry keeps, or none where it keeps all, and whether plain
-- requests are answered too
pub record Source : Type 0 where
  pub names : List (List ℕ)
  pub kept : Option ℕ
  pub is_plain : Bool

-- these names, of which so many changes are kept, and whether plain requests are answered
abbrev pub source_of : List (List ℕ) → Option ℕ → Bool → Source
source_of names kept is_plain = record { names = names; kept = kept; is_plain = is_plain }

-- the head is that of a call: too large, or one that a plain answer leaves, where there are such answers
abbrev pub IsOfCall : Bool → List ℕ → Type 0
IsOfCall is_plain head = is_plain ≡ true → is_too_large head ≡ false → IsLeft head

-- the head is that of a plain request, which is answered by this text, over these names, at this history
pub record IsPlainly (source : Source) (seen : List Entry) (head text : List ℕ) : Type 0 where
  pub is_plain : source.is_plain ≡ true
  pub within : is_too_large head ≡ false
  pub is_told : IsTold source.names seen head text

-- what is answered: a request of this head and body, at the histories that the door had each time it was asked
pub record Asking : Type 0 where
  pub source : Source
  pub asked : List (List Entry)
  pub head : List ℕ
  pub body : List ℕ

-- the head asks for a method by a body of this length, and the body asks this of it
pub record Asks (asking : Asking) (what : WhatIsAsked) : Type 0 where
  pub is_of_call : IsOfCall asking.source.is_plain asking.head
  pub method : Method
  pub is_headed : IsHeaded asking.head (Asked method (length asking.body))
  pub is_asked : IsAsked method asking.body what

-- a Watch of this service that was opened at the first history, and was never behind at the later ones
pub record IsWatch (asking : Asking) (name : List ℕ) (first : List Entry) (later : List (List Entry)) : Type 0 where
  pub asks : Asks asking (WatchesName name)
  pub keeps_up : KeepsUp asking.source.kept (opened (changes_of first) (slot_of asking.source.names name)) later

-- the answer: what is done, what is being sent, and the outcome if that is the last of it
pub data Sends (asking : Asking) : List Piece → List Piece → Option Outcome → Type 0 where
  -- a head that HTTP refuses, or that ends the call with a status: no body is read and nobody is asked
  RefusedByHttp : (http : ℕ) → IsOfCall asking.source.is_plain asking.head → IsHeaded asking.head (Refused http) → asking.body ≡ [] → asking.asked ≡ []
      → Sends asking [] (refusal_pieces http) (Some (Http http))
  EndedByHead : (code : Code) (text : List ℕ) → IsOfCall asking.source.is_plain asking.head → IsHeaded asking.head (Ended code text) → asking.body ≡ [] → asking.asked ≡ []
      → Sends asking [] (status_pieces code text) (Some (Status code))
  -- a plain request, which has no body, gets its text, from the one history that was asked
  ToldPlainly : (seen : List Entry) (text : List ℕ) → IsPlainly asking.source seen asking.head text
      → asking.body ≡ [] → asking.asked ≡ seen ∷ []
      → Sends asking [] (plain text ∷ []) (Some Plainly)
  -- a body that is refused gets its status, and nobody is asked
  RefusedByBody : (code : Code) (text : List ℕ) → Asks asking (RefusesBody code text) → asking.asked ≡ []
      → Sends asking [] (status_pieces code text) (Some (Status code))
  -- a Check gets the status that the map has at the one history that was asked
  Check : (name : List ℕ) (seen : List Entry) → Asks asking (ChecksName name) → asking.asked ≡ seen ∷ []
      → Sends asking [] (check_pieces (status_map asking.source.names seen name)) (Some (Status (check_code (status_map asking.source.names seen name))))
  -- a Watch is told its first status and what each step answers
  Watch : (name : List ℕ) (first : List Entry) (later : List (List Entry)) (done part : List Piece) → IsWatch asking name first later
      → asking.asked ≡ first ∷ later → Tells (slot_of asking.source.names name) first later done part → Sends asking done part None
  -- its end, behind all that was told
  WatchEnd : (name : List ℕ) (first : List Entry) (later : List (List Entry)) → IsWatch asking name first later → asking.asked ≡ first ∷ later
      → Sends asking (told_pieces (told_by (slot_of asking.source.names name) first later)) watch_end
      (Some (Watched (counted (length (told_by (slot_of asking.source.names name) first later)))))
  -- the same end of one that was behind when the door was asked once more
  WatchBehind : (name : List ℕ) (first : List Entry) (later : List (List Entry)) (next : List Entry) → IsWatch asking name first later
      → asking.asked ≡ first ∷ later ++ next ∷ []
      → IsBehind asking.source.kept (changes_of next) (watch_after (opened (changes_of first) (slot_of asking.source.names name)) later)
      → Sends asking (told_pieces (told_by (slot_of asking.source.names name) first later)) watch_end
      (Some (Behind (counted (length (told_by (slot_of asking.source.names name) first later)))))

-- all pieces of the answer, and its outcome
pub record IsAnswered (asking : Asking) (pieces : List Piece) (outcome : Outcome) : Type 0 where
  pub done : List Piece
  pub part : List Piece
  pub all : pieces ≡ done ++ part
  pub sends : Sends asking done part (Some outcome)

-- an allocation failed after these bytes of a request, for its body or for the answer. The flag says
-- whether plain requests are answered. A Watch allocates nothing for its answer
pub data IsStarvedAt (is_plain : Bool) (asked : List (List Entry)) (bytes : List ℕ) : Type 0 where
  -- the bytes are a head
  Head : IsHead bytes → asked ≡ [] → IsStarvedAt is_plain asked bytes
  Refusal : (head body : List ℕ) (method : Method) (code : Code) (text : List ℕ) → bytes ≡ head ++ body → IsHead head
      → IsHeaded head (Asked method (length body)) → IsAsked method body (RefusesBody code text)
      → asked ≡ [] → IsStarvedAt is_plain asked bytes
  Check : (head body : List ℕ) (method : Method) (name : List ℕ) (seen : List Entry) → bytes ≡ head ++ body → IsHead head
      → IsHeaded head (Asked method (length body)) → IsAsked method body (ChecksName name)
      → asked ≡ seen ∷ [] → IsStarvedAt is_plain asked bytes
  -- the bytes are the head of a plain request, which asks once, where such requests are answered
  Plain : (what : AskedPlainly) (seen : List Entry) → is_plain ≡ true → IsHead bytes
      → is_too_large bytes ≡ false → IsInquiryOf bytes what → asked ≡ seen ∷ []
      → IsStarvedAt is_plain asked bytes
