-- What a response tells with the bytes that have come.
use Rattle.std.proofs.Common.{ℕ, ◌≡◌, ◌<◌, ◌≤◌, true, false, List, [], ◌∷◌, ◌++◌, length, refl, sym, ap, subst, arith}
use Rattle.std.proofs.lemmas.List.{nil_from_length}
use Rattle.std.specs.Prelude.{Some, None, Result, Ok, Err, OnErr}
use Rattle.grpc_frame.specs.Frame.{frame}
use Rattle.grpc_frame.specs.Lines.{lines}
use Rattle.grpc_frame.specs.Split.{max_content_len, BeginsWithNoFrame}
use Rattle.grpc_frame.specs.Trailers.{trailers_in}
use Rattle.grpc_frame.specs.declared.fault.TrailerFault.{TrailerFault}
use Rattle.health_wire.specs.Message.{IsFault}
use Rattle.health_wire.specs.Response.{IsResponse}
use Rattle.health_wire.specs.declared.fault.WireFault.{WireFault}
use Rattle.web_call.specs.declared.method.Method.{Method}
use Rattle.web_call.specs.declared.method.Method.TheVariants.{Check, Watch}
use Rattle.client.specs.declared.response_body.Next.{Next}
use Rattle.client.specs.declared.response_body.Next.TheVariants.{Line, Data, End, Last}
use Rattle.client.specs.declared.told.Ended.{Ended}
use Rattle.client.specs.GrpcFrames.{IsSoundFront}
use Rattle.client.specs.Growth.{EndsInStatus}
use Rattle.client.specs.Reply.{EndsWith, IsReply, IsGoingOn, IsTold, ByTrailers, ByCount, ByEnd, IsBad, ByContent, NotSound, BadMessage, BadTrailers, Behind, CutFrame, NoTrailers, is_enough}
use Rattle.client.specs.ResponseBody.{left_of, spare_in, wanted_by}
use Rattle.client.specs.Stages.{IsEnding}
use Rattle.client.proofs.GrpcFrameLemmas.{Tells-push}

-- where nothing is wanted the body is over
at_last : (next : Next) → 1 ≤ spare_in next → wanted_by next ≤ 0 → next ≡ Last 0
at_last (Line part) some none = absurd (omega arith)
at_last (Data left) some none = absurd (omega arith)
at_last (End part) some none = absurd (omega arith)
at_last (Last left) some none = let zero : left ≡ 0 = omega arith in ap Last zero

-- a body that ends within a frame
pub cut_bad : (method : Method) (most : ℕ) (bytes : List ℕ) (next : Next) (more : ℕ) (statuses rest : List ℕ) → 1 ≤ spare_in next → wanted_by next ≤ 0
    → 0 < length rest → IsGoingOn method most bytes next more statuses rest → IsBad method most bytes
cut_bad method most bytes next more statuses rest some none front going =
    ByContent next more statuses rest going.reply going.unfinished (CutFrame (at_last next some none) front going.none)

-- a Check without trailers
pub check_bad : (method : Method) (most : ℕ) (bytes : List ℕ) (next : Next) (more : ℕ) (statuses rest : List ℕ) → 1 ≤ spare_in next → wanted_by next ≤ 0
    → length rest ≡ 0 → method ≡ Check → IsGoingOn method most bytes next more statuses rest → IsBad method most bytes
check_bad method most bytes next more statuses rest some none empty is going =
    ByContent next more statuses rest going.reply going.unfinished (NoTrailers is (at_last next some none) (nil_from_length rest empty))

-- a Watch that was cut off
pub watch_told : (method : Method) (most : ℕ) (bytes : List ℕ) (next : Next) (more : ℕ) (statuses rest : List ℕ) → 1 ≤ spare_in next → wanted_by next ≤ 0
    → length rest ≡ 0 → method ≡ Watch → IsGoingOn method most bytes next more statuses rest → IsTold method most bytes statuses None
watch_told method most bytes next more statuses rest some none empty is going =
    let over = subst (λ (n : Next). IsReply method bytes n more statuses rest) (at_last next some none) going.reply in
    ByEnd more is (subst (λ (all : List ℕ). IsReply method bytes (Last 0) more statuses all) (nil_from_length rest empty) over) going.unfinished refl

-- no bytes are no frame
pub no_frame : BeginsWithNoFrame []
no_frame flag content rest front = let none : 0 ≡ length (frame flag content ++ rest) = ap length front.parts in omega arith

-- nor do they begin one that is wrong
pub sound_start : (more : ℕ) → IsSoundFront more []
sound_start more = record {
  flagged = tt;
  fits = tt;
  short =
      λ long. let none : 0 ≡ length (long.flag ∷ Rattle.std.specs.Int.to_be_bytes Rattle.std.specs.Int.w32 long.len ++ long.rest) =
      ap length long.parts in omega arith;
}

-- a message that is none
pub message_bad : (method : Method) (most : ℕ) (bytes : List ℕ) (next : Next) (more : ℕ) (statuses message : List ℕ) (fault : WireFault) → IsFault message fault
    → length message ≤ max_content_len → IsEnding method most bytes next more statuses (frame 0 message) → IsBad method most bytes
message_bad method most bytes next more statuses message fault is fits ending =
    ByContent next more statuses (frame 0 message) ending.ends.reply ending.unfinished (BadMessage message fault refl fits is)

-- one status more
reply_push : (method : Method) (bytes : List ℕ) (next : Next) (more : ℕ) (statuses message : List ℕ) (status : ℕ) → length message ≤ max_content_len → IsResponse message status
    → IsReply method bytes next more statuses (frame 0 message) → IsReply method bytes next more (statuses ++ status ∷ []) []
reply_push method bytes next more statuses message status fits has reply = record {
  head = reply.head;
  body = reply.body;
  framing = reply.framing;
  content = reply.content;
  parts = reply.parts;
  is_head = reply.is_head;
  framed = reply.framed;
  stands = reply.stands;
  tells = Tells-push reply.content statuses message status fits has reply.tells;
}

-- the last status that was asked for
pub message_told : (method : Method) (most : ℕ) (bytes : List ℕ) (next : Next) (more : ℕ) (statuses message told : List ℕ) (status : ℕ) → length message ≤ max_content_len
    → IsResponse message status → told ≡ statuses ++ status ∷ [] → is_enough method most (length told) ≡ true
    → IsEnding method most bytes next more statuses (frame 0 message) → IsTold method most bytes told None
message_told method most bytes next more statuses message told status fits has is enough ending =
    ByCount next more statuses message status ending.ends fits ending.unfinished has is enough refl

-- one status more, whatever was asked for
pub message_grows : (method : Method) (bytes : List ℕ) (next : Next) (more : ℕ) (statuses message told : List ℕ) (status : ℕ) → length message ≤ max_content_len
    → IsResponse message status → told ≡ statuses ++ status ∷ [] → EndsWith method bytes next more statuses (frame 0 message) → EndsInStatus method bytes statuses told
message_grows method bytes next more statuses message told status fits has is ends = record {
  next = next;
  more = more;
  message = message;
  status = status;
  ends = ends;
  fits = fits;
  response = has;
  after_is = is;
}

-- a status behind which more is asked for
pub message_on : (method : Method) (most : ℕ) (bytes : List ℕ) (next : Next) (more : ℕ) (statuses message told : List ℕ) (status : ℕ) → length message ≤ max_content_len
    → IsResponse message status → told ≡ statuses ++ status ∷ [] → is_enough method most (length told) ≡ false
    → IsEnding method most bytes next more statuses (frame 0 message) → IsGoingOn method most bytes next more told []
message_on method most bytes next more statuses message told status fits has is unfinished ending = record {
  reply = subst (λ (all : List ℕ). IsReply method bytes next more all []) (sym is) (reply_push method bytes next more statuses message status fits has ending.ends.reply);
  unfinished = unfinished;
  none = no_frame;
  sound = sound_start more;
}

-- trailers with bytes behind them in their chunk
pub behind_bad : (method : Method) (most : ℕ) (bytes : List ℕ) (next : Next) (more : ℕ) (statuses block : List ℕ) → 0 < left_of next
    → length block ≤ max_content_len → IsEnding method most bytes next more statuses (frame 128 block) → IsBad method most bytes
behind_bad method most bytes next more statuses block left fits ending =
    ByContent next more statuses (frame 128 block) ending.ends.reply ending.unfinished (Behind block refl fits left)

-- trailers that are none
pub trailers_bad : (method : Method) (most : ℕ) (bytes : List ℕ) (next : Next) (more : ℕ) (statuses block : List ℕ) (fault : TrailerFault)
    → trailers_in (lines block) ≡ Err fault → length block ≤ max_content_len → IsEnding method most bytes next more statuses (frame 128 block) → IsBad method most bytes
trailers_bad method most bytes next more statuses block fault is fits ending =
    ByContent next more statuses (frame 128 block) ending.ends.reply ending.unfinished (BadTrailers block fault refl fits is)

-- the end of the call
pub trailers_told : (method : Method) (most : ℕ) (bytes : List ℕ) (next : Next) (more : ℕ) (statuses block : List ℕ) (ended : Ended) → left_of next ≡ 0
    → trailers_in (lines block) ≡ Ok (ended.code, ended.text.items) → length block ≤ max_content_len → IsEnding method most bytes next more statuses (frame 128 block)
    → IsTold method most bytes statuses (Some ended)
trailers_told method most bytes next more statuses block ended none is fits ending =
    ByTrailers next more block ended ending.ends fits ending.unfinished none is refl

-- content that no frame begins with
pub front_bad : (method : Method) (most : ℕ) (bytes : List ℕ) (next : Next) (more : ℕ) (statuses rest : List ℕ) → ¬ IsSoundFront more rest
    → IsEnding method most bytes next more statuses rest → IsBad method most bytes
front_bad method most bytes next more statuses rest wrong ending =
    ByContent next more statuses rest ending.ends.reply ending.unfinished (NotSound wrong)

-- content that is no whole frame yet
pub front_on : (method : Method) (most : ℕ) (bytes : List ℕ) (next : Next) (more : ℕ) (statuses rest fed : List ℕ) → rest ≡ fed → BeginsWithNoFrame rest
    → IsSoundFront more rest → IsEnding method most bytes next more statuses fed → IsGoingOn method most bytes next more statuses rest
front_on method most bytes next more statuses rest fed is none sound ending = record {
  reply = subst (IsReply method bytes next more statuses) (sym is) ending.ends.reply;
  unfinished = ending.unfinished;
  none = none;
  sound = sound;
}

-- what holds at an error, where there is one
pub on_err : {T E P : Type 0} (r : Result T E) (e : E) → r ≡ Err e → OnErr r P → P
on_err {T} {E} {P} r e is holds = let Q : Result T E → Type 0 = λ s. OnErr s P in subst Q is holds
