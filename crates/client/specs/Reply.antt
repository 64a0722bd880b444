-- What the bytes of a response mean to a call of gRPC-Web, however they were cut (RFC 9112; doc/PROTOCOL-WEB.md of grpc; health.proto).
use Rattle.std.specs.Prelude.{ℕ, ◌≡◌, ◌≢◌, ◌<◌, ◌≤◌, Bool, true, false, nat_le, Option, Some, None, Ok, Err, List, [], ◌∷◌, ◌++◌, length}
use Rattle.grpc_frame.specs.Frame.{frame}
use Rattle.grpc_frame.specs.Lines.{lines}
use Rattle.grpc_frame.specs.Split.{BeginsWithNoFrame, max_content_len}
use Rattle.grpc_frame.specs.Trailers.{trailers_in}
use Rattle.grpc_frame.specs.declared.fault.TrailerFault.{TrailerFault}
use Rattle.health_wire.specs.Message.{IsFault}
use Rattle.health_wire.specs.Response.{IsResponse}
use Rattle.health_wire.specs.declared.fault.WireFault.{WireFault}
use Rattle.web_call.specs.InputHead.{IsHead, IsOpenHead}
use Rattle.web_call.specs.declared.method.Method.{Method}
use Rattle.web_call.specs.declared.method.Method.TheVariants.{Check, Watch}
use Rattle.client.specs.declared.ask_fault.AskFault.{AskFault}
use Rattle.client.specs.declared.ask_fault.AskFault.TheVariants.{Read, Write, BadResponse, Http}
use Rattle.client.specs.declared.http_framing.Framing.{Framing}
use Rattle.client.specs.declared.response_body.Next.{Next}
use Rattle.client.specs.declared.response_body.Next.TheVariants.{Last}
use Rattle.client.specs.declared.told.Ended.{Ended}
use Rattle.client.specs.GrpcFrames.{IsSoundFront, Tells}
use Rattle.client.specs.HttpFraming.{IsFramed}
use Rattle.client.specs.ResponseBody.{IsBadBody, Stands, left_of, wanted_by}

-- whether so many statuses are all that was asked for: a Check is told by its trailers alone
abbrev pub is_enough : Method → ℕ → ℕ → Bool
is_enough Check most count = false
is_enough Watch most count = nat_le most count

-- a response to such a call so far: a head that says how its body is framed, and of the body some bytes, whose content tells these statuses, and then
-- has this rest. What comes next in the body is `next`, and at most so many bytes of content may still come
pub record IsReply (method : Method) (bytes : List ℕ) (next : Next) (more : ℕ) (statuses rest : List ℕ) : Type 0 where
  pub head : List ℕ
  pub body : List ℕ
  pub framing : Framing
  pub content : List ℕ
  pub parts : bytes ≡ head ++ body
  pub is_head : IsHead head
  pub framed : IsFramed method head (Ok framing)
  pub stands : Stands framing body content next more
  pub tells : Tells content statuses rest

-- a response from which more has to be known: fewer statuses than were asked for, and behind them the front of a frame that may become whole
pub record IsGoingOn (method : Method) (most : ℕ) (bytes : List ℕ) (next : Next) (more : ℕ) (statuses rest : List ℕ) : Type 0 where
  pub reply : IsReply method bytes next more statuses rest
  pub unfinished : is_enough method most (length statuses) ≡ false
  pub none : BeginsWithNoFrame rest
  pub sound : IsSoundFront more rest

-- more bytes have to be read: of the head, or of the body
pub data IsOpen (method : Method) (most : ℕ) (bytes : List ℕ) : Type 0 where
  InHead : IsOpenHead bytes → IsOpen method most bytes
  InBody : (next : Next) (more : ℕ) (statuses rest : List ℕ) → IsGoingOn method most bytes next more statuses rest → 0 < wanted_by next
      → IsOpen method most bytes

-- before the last of these bytes came, more bytes had to be read
pub record WasOpen (method : Method) (most : ℕ) (bytes : List ℕ) : Type 0 where
  pub front : List ℕ
  pub byte : ℕ
  pub bytes_are : bytes ≡ front ++ byte ∷ []
  pub was_open : IsOpen method most front

-- the last byte that came is the last one of this rest of the content
pub record EndsWith (method : Method) (bytes : List ℕ) (next : Next) (more : ℕ) (statuses rest : List ℕ) : Type 0 where
  pub reply : IsReply method bytes next more statuses rest
  pub front : List ℕ
  pub byte : ℕ
  pub next_before : Next
  pub more_before : ℕ
  pub part : List ℕ
  pub bytes_are : bytes ≡ front ++ byte ∷ []
  pub rest_is : rest ≡ part ++ byte ∷ []
  pub before : IsReply method front next_before more_before statuses part

-- the bytes tell these statuses, in their order, and the end of the call, if it has one; and no byte came behind what tells it
pub data IsTold (method : Method) (most : ℕ) (bytes told : List ℕ) (end : Option Ended) : Type 0 where
  -- by trailers, which are the last of their chunk, or of the body by its length
  ByTrailers : (next : Next) (more : ℕ) (block : List ℕ) (ended : Ended) → EndsWith method bytes next more told (frame 128 block)
      → length block ≤ max_content_len → is_enough method most (length told) ≡ false → left_of next ≡ 0
      → trailers_in (lines block) ≡ Ok (ended.code, ended.text.items) → end ≡ Some ended → IsTold method most bytes told end
  -- by the last status that was asked for
  ByCount : (next : Next) (more : ℕ) (statuses message : List ℕ) (status : ℕ) → EndsWith method bytes next more statuses (frame 0 message)
      → length message ≤ max_content_len → is_enough method most (length statuses) ≡ false → IsResponse message status → told ≡ statuses ++ status ∷ []
      → is_enough method most (length told) ≡ true → end ≡ None → IsTold method most bytes told end
  -- by the end of the body of a Watch, which was cut off
  ByEnd : (more : ℕ) → method ≡ Watch → IsReply method bytes (Last 0) more told [] → is_enough method most (length told) ≡ false → end ≡ None
      → IsTold method most bytes told end

-- what is wrong with the rest of the content, where so many bytes may still come
pub data IsBadRest (method : Method) (next : Next) (more : ℕ) (rest : List ℕ) : Type 0 where
  -- no frame of a response begins so, or none that can become whole
  NotSound : ¬ IsSoundFront more rest → IsBadRest method next more rest
  -- a message that is none
  BadMessage : (message : List ℕ) (fault : WireFault) → rest ≡ frame 0 message → length message ≤ max_content_len → IsFault message fault → IsBadRest method next more rest
  -- trailers that are none, or that are not the last of their chunk or of the body by its length
  BadTrailers : (block : List ℕ) (fault : TrailerFault) → rest ≡ frame 128 block → length block ≤ max_content_len → trailers_in (lines block) ≡ Err fault → IsBadRest method next more rest
  Behind : (block : List ℕ) → rest ≡ frame 128 block → length block ≤ max_content_len → 0 < left_of next → IsBadRest method next more rest
  -- the body ends within a frame that is not whole, or without trailers, which a Check has to have
  CutFrame : next ≡ Last 0 → 0 < length rest → BeginsWithNoFrame rest → IsBadRest method next more rest
  NoTrailers : method ≡ Check → next ≡ Last 0 → rest ≡ [] → IsBadRest method next more rest

-- the bytes show that no response to the call begins so: by the head, by the chunks, or by the content. A fault shows at the end of its
-- part: the head, the line of a chunk, the two bytes behind a chunk, the flag or the length of a frame, or the frame
pub data IsBad (method : Method) (most : ℕ) (bytes : List ℕ) : Type 0 where
  ByHead : IsHead bytes → IsFramed method bytes (Err BadResponse) → IsBad method most bytes
  ByBody : (head body : List ℕ) (framing : Framing) → bytes ≡ head ++ body → IsHead head → IsFramed method head (Ok framing) → IsBadBody framing body
      → IsBad method most bytes
  ByContent : (next : Next) (more : ℕ) (statuses rest : List ℕ) → IsReply method bytes next more statuses rest → is_enough method most (length statuses) ≡ false
      → IsBadRest method next more rest → IsBad method most bytes

-- the bytes are the head of a response with another status code of HTTP than 200, whatever the call
pub record IsRefused (bytes : List ℕ) (status : ℕ) : Type 0 where
  pub is_head : IsHead bytes
  pub framed : (method : Method) → IsFramed method bytes (Err (Http status))

-- a fault of the response, or of memory, and neither of the reader nor of the writer
abbrev pub IsOfResponse : AskFault → Type 0
IsOfResponse fault = (fault ≢ Read) × (fault ≢ Write)
