-- Before the last byte of a piece came, more of the response had to be read.
use Rattle.std.proofs.Common.{ℕ, ◌≡◌, ◌+◌, ◌-◌, ◌<◌, ◌≤◌, false, Option, List, [], ◌∷◌, ◌++◌, length, take, drop, sym, ap, ◌∙◌, subst, arith, append_assoc, length-append, inl, inr}
use Rattle.std.proofs.lemmas.List.{append-nil, nil_from_length}
use Rattle.std.specs.Prelude.{IfOk, Result, Ok, Err}
use Rattle.std.specs.Int.{w32, to_be_bytes, from_be_bytes}
use Rattle.std.specs.Io.KnownBytes.{Consumes}
use Rattle.grpc_frame.specs.Frame.{frame}
use Rattle.grpc_frame.specs.Split.{BeginsTooLong, BeginsWithFrame, BeginsWithNoFrame}
use Rattle.web_call.specs.declared.method.Method.{Method}
use Rattle.client.specs.declared.ask_fault.AskFault.{AskFault}
use Rattle.client.specs.declared.reply.Reply.{Reply}
use Rattle.client.specs.declared.reply.ReplyStage.{ReplyStage}
use Rattle.client.specs.declared.reply.ReplyStage.TheVariants.{Head, Body, Told}
use Rattle.client.specs.declared.response_body.Next.{Next}
use Rattle.client.specs.declared.response_body.Next.TheVariants.{Line, Data, End, Last}
use Rattle.client.specs.GrpcFrames.{IsSoundFront, missing_in}
use Rattle.client.specs.Growth.{Grows}
use Rattle.client.specs.Reply.{IsGoingOn, IsOpen, IsReply, InBody, InHead, WasOpen, is_enough}
use Rattle.client.specs.ResponseBody.{wanted_by}
use Rattle.client.specs.Stages.{GoesTo, Holds, StandsAt, method_of, most_of, statuses_at, statuses_of, wanted_at, wanted_of, wanted_with}
use Rattle.client.proofs.BodyLemmas.{at_most, front_of, data_more, end_more, last_more}
use Rattle.client.proofs.GivingLemmas.{last_of, reply_goes}
use Rattle.client.proofs.GrpcFrameLemmas.{len_is, length-frame}

-- fewer than five bytes begin with no frame
short_none : (all content rest : List ℕ) (flag : ℕ) → length all < 5 → ¬ BeginsWithFrame all flag content rest
short_none all content rest flag short front =
    let lens : length all ≡ length (frame flag content ++ rest) = ap length front.parts in
    omega (arith, length-append (frame flag content) rest, length-frame flag content)

-- fewer bytes than are missing make no frame whole
none_yet : (old piece : List ℕ) → length piece < missing_in old → BeginsWithNoFrame old → BeginsWithNoFrame (old ++ piece)
none_yet [] piece within none flag content rest front = short_none piece content rest flag (omega arith) front
none_yet (mark ∷ []) piece within none flag content rest front = short_none (mark ∷ piece) content rest flag (omega arith) front
none_yet (mark ∷ a ∷ []) piece within none flag content rest front = short_none (mark ∷ a ∷ piece) content rest flag (omega arith) front
none_yet (mark ∷ a ∷ b ∷ []) piece within none flag content rest front = short_none (mark ∷ a ∷ b ∷ piece) content rest flag (omega arith) front
none_yet (mark ∷ a ∷ b ∷ c ∷ []) piece within none flag content rest front =
    short_none (mark ∷ a ∷ b ∷ c ∷ piece) content rest flag (omega arith) front
none_yet (mark ∷ a ∷ b ∷ c ∷ d ∷ part) piece within none flag content rest front =
    let old = mark ∷ a ∷ b ∷ c ∷ d ∷ part in
    let len : from_be_bytes w32 (a ∷ b ∷ c ∷ d ∷ []) ≡ length content = len_is mark a b c d (part ++ piece) content rest flag front in
    let lens : length (part ++ piece) + 5 ≡ length (frame flag content ++ rest) = omega (arith, ap length front.parts) in
    elim (at_most (length content) (length part)) [
      | inl whole ↦
          none flag content (take (length old - length (frame flag content)) rest) (record {
            fits = front.fits;
            parts = front_of old piece (frame flag content) rest front.parts (omega (arith, length-frame flag content));
          })
      | inr over ↦ omega (arith, length-append part piece, length-append (frame flag content) rest, length-frame flag content)
    ]

-- fewer than five bytes are not too long
short_enough : (all : List ℕ) → length all < 5 → ¬ BeginsTooLong all
short_enough all short long =
    let lens : length all ≡ length (long.flag ∷ to_be_bytes w32 long.len ++ long.rest) = ap length long.parts in
    omega arith

-- a header that is too long was so before more came
long_before : (mark a b c d : ℕ) (part piece : List ℕ) → BeginsTooLong (mark ∷ a ∷ b ∷ c ∷ d ∷ part ++ piece) → BeginsTooLong (mark ∷ a ∷ b ∷ c ∷ d ∷ part)
long_before mark a b c d part piece long =
    let four : a ∷ b ∷ c ∷ d ∷ [] ≡ to_be_bytes w32 long.len = ap (λ (all : List ℕ). take 4 (drop 1 all)) long.parts in record {
      flag = mark;
      len = long.len;
      rest = part;
      over = long.over;
      fits = long.fits;
      parts = ap (λ (all : List ℕ). mark ∷ all ++ part) four;
    }

-- the front of a frame stays right with fewer bytes than are missing
sound_yet : (more : ℕ) (old piece : List ℕ) → length piece < missing_in old → length piece ≤ more → IsSoundFront more old
    → IsSoundFront (more - length piece) (old ++ piece)
sound_yet more [] [] within room sound = record { flagged = tt; fits = tt; short = sound.short }
sound_yet more [] (byte ∷ piece) within room sound = absurd (omega arith)
sound_yet more (mark ∷ []) [] within room sound = record { flagged = sound.flagged; fits = tt; short = sound.short }
sound_yet more (mark ∷ []) (a ∷ []) within room sound = record { flagged = sound.flagged; fits = tt; short = short_enough (mark ∷ a ∷ []) (omega arith) }
sound_yet more (mark ∷ []) (a ∷ b ∷ []) within room sound = record { flagged = sound.flagged; fits = tt; short = short_enough (mark ∷ a ∷ b ∷ []) (omega arith) }
sound_yet more (mark ∷ []) (a ∷ b ∷ c ∷ []) within room sound = record { flagged = sound.flagged; fits = tt; short = short_enough (mark ∷ a ∷ b ∷ c ∷ []) (omega arith) }
sound_yet more (mark ∷ []) (a ∷ b ∷ c ∷ d ∷ piece) within room sound = absurd (omega arith)
sound_yet more (mark ∷ a ∷ []) [] within room sound = record { flagged = sound.flagged; fits = tt; short = sound.short }
sound_yet more (mark ∷ a ∷ []) (b ∷ []) within room sound = record { flagged = sound.flagged; fits = tt; short = short_enough (mark ∷ a ∷ b ∷ []) (omega arith) }
sound_yet more (mark ∷ a ∷ []) (b ∷ c ∷ []) within room sound = record { flagged = sound.flagged; fits = tt; short = short_enough (mark ∷ a ∷ b ∷ c ∷ []) (omega arith) }
sound_yet more (mark ∷ a ∷ []) (b ∷ c ∷ d ∷ piece) within room sound = absurd (omega arith)
sound_yet more (mark ∷ a ∷ b ∷ []) [] within room sound = record { flagged = sound.flagged; fits = tt; short = sound.short }
sound_yet more (mark ∷ a ∷ b ∷ []) (c ∷ []) within room sound = record { flagged = sound.flagged; fits = tt; short = short_enough (mark ∷ a ∷ b ∷ c ∷ []) (omega arith) }
sound_yet more (mark ∷ a ∷ b ∷ []) (c ∷ d ∷ piece) within room sound = absurd (omega arith)
sound_yet more (mark ∷ a ∷ b ∷ c ∷ []) [] within room sound = record { flagged = sound.flagged; fits = tt; short = sound.short }
sound_yet more (mark ∷ a ∷ b ∷ c ∷ []) (d ∷ piece) within room sound = absurd (omega arith)
sound_yet more (mark ∷ a ∷ b ∷ c ∷ d ∷ part) piece within room sound = record {
  flagged = sound.flagged;
  fits = let fits : from_be_bytes w32 (a ∷ b ∷ c ∷ d ∷ []) ≤ length part + more = sound.fits in omega (arith, length-append part piece, fits);
  short = λ long. sound.short (long_before mark a b c d part piece long);
}

-- a response goes on with fewer bytes of content than are wanted
content_yet : (method : Method) (most : ℕ) (bytes piece : List ℕ) (next next_after : Next) (more : ℕ) (statuses rest : List ℕ) → length piece < missing_in rest
    → length piece ≤ more → IsReply method (bytes ++ piece) next_after (more - length piece) statuses (rest ++ piece)
    → IsGoingOn method most bytes next more statuses rest → IsGoingOn method most (bytes ++ piece) next_after (more - length piece) statuses (rest ++ piece)
content_yet method most bytes piece next next_after more statuses rest fewer room reply going = record {
  reply = reply;
  unfinished = going.unfinished;
  none = none_yet rest piece fewer going.none;
  sound = sound_yet more rest piece fewer room going.sound;
}

-- no more bytes
no_more : (P : List ℕ → Type 0) (bytes piece : List ℕ) → length piece ≡ 0 → P bytes → P (bytes ++ piece)
no_more P bytes piece none holds = subst P (sym (ap (λ (all : List ℕ). bytes ++ all) (nil_from_length piece none) ∙ append-nil bytes)) holds

-- with fewer bytes than are taken at once a response is still open
body_open : (method : Method) (most : ℕ) (bytes piece : List ℕ) (next : Next) (more : ℕ) (statuses rest : List ℕ) → 1 ≤ wanted_by next
    → length piece < wanted_with next (missing_in rest) → IsGoingOn method most bytes next more statuses rest → IsOpen method most (bytes ++ piece)
body_open method most bytes piece (Line part) more statuses rest comes fewer going =
    no_more (IsOpen method most) bytes piece (omega arith) (InBody (Line part) more statuses rest going comes)
body_open method most bytes piece (Data left) more statuses rest comes fewer going =
    let room : left ≤ more = going.reply.stands.room in
    let reply = reply_goes method bytes piece (Data left) (Data (left - length piece)) more (more - length piece) statuses rest
    (λ framing body content stands. data_more framing body content piece left more (omega arith) (omega arith) stands) going.reply in
    InBody (Data (left - length piece)) (more - length piece) statuses (rest ++ piece)
    (content_yet method most bytes piece (Data left) (Data (left - length piece)) more statuses rest (omega arith) (omega arith) reply going) (omega arith)
body_open method most bytes piece (End part) more statuses rest comes fewer going =
    let short : length (part ++ piece) < 2 = omega (arith, length-append part piece) in
    let reply = reply_goes method bytes piece (End part) (End (part ++ piece)) more more statuses rest
    (λ framing body content stands. end_more framing body content part piece more short stands) going.reply in
    InBody (End (part ++ piece)) more statuses rest (record {
      reply = subst (IsReply method (bytes ++ piece) (End (part ++ piece)) more statuses) (append-nil rest) reply;
      unfinished = going.unfinished;
      none = going.none;
      sound = going.sound;
    }) (omega arith)
body_open method most bytes piece (Last left) more statuses rest comes fewer going =
    let room : left ≤ more = going.reply.stands.room in
    let reply = reply_goes method bytes piece (Last left) (Last (left - length piece)) more (more - length piece) statuses rest
    (λ framing body content stands. last_more framing body content piece left more (omega arith) (omega arith) (omega arith) stands) going.reply in
    InBody (Last (left - length piece)) (more - length piece) statuses (rest ++ piece)
    (content_yet method most bytes piece (Last left) (Last (left - length piece)) more statuses rest (omega arith) (omega arith) reply going) (omega arith)

-- the same at any stage
stage_open : (method : Method) (most : ℕ) (bytes head piece : List ℕ) (stage : ReplyStage) → length piece < wanted_at stage → StandsAt method most bytes head stage
    → IsOpen method most (bytes ++ piece)
stage_open method most bytes head piece Head fewer stands = no_more (IsOpen method most) bytes piece (omega arith) (InHead stands.1)
stage_open method most bytes head piece (Body reading) fewer stands =
    body_open method most bytes piece reading.body.next reading.body.more reading.heard.statuses.items reading.heard.splitter reading.comes fewer stands
stage_open method most bytes head piece (Told told) fewer stands = absurd (omega arith)

-- the same to the last one of the bytes that are taken at once
was_open_at : (method : Method) (most : ℕ) (bytes head piece : List ℕ) (stage : ReplyStage) → 0 < length piece → length piece ≤ wanted_at stage
    → StandsAt method most bytes head stage → WasOpen method most (bytes ++ piece)
was_open_at method most bytes head piece stage some within stands =
    let last = last_of piece some in record {
      front = bytes ++ last.front;
      byte = last.byte;
      bytes_are = ap (λ (all : List ℕ). bytes ++ all) last.is ∙ sym (append_assoc bytes last.front (last.byte ∷ []));
      was_open = stage_open method most bytes head last.front stage
          (let fewer : length last.front < wanted_at stage = omega (arith, last.shorter) in fewer) stands;
    }

-- bytes that a response wants come while it is open, to the last one
pub was_open : (reply : Reply) (bytes piece : List ℕ) → 0 < length piece → length piece ≤ wanted_of reply → Holds bytes reply
    → WasOpen (method_of reply) (most_of reply) (bytes ++ piece)
was_open reply bytes piece some within holds =
    was_open_at (method_of reply) (most_of reply) bytes reply.head.items piece reply.stage some within holds

-- a response stands so also where another number of statuses is asked for that it has not reached
stands_for : (method : Method) (most other : ℕ) (bytes head : List ℕ) (stage : ReplyStage) → 0 < wanted_at stage
    → is_enough method other (length (statuses_at stage)) ≡ false → StandsAt method most bytes head stage → StandsAt method other bytes head stage
stands_for method most other bytes head Head wants unfinished stands = stands
stands_for method most other bytes head (Body reading) wants unfinished stands = record {
  reply = stands.reply;
  unfinished = unfinished;
  none = stands.none;
  sound = stands.sound;
}
stands_for method most other bytes head (Told told) wants unfinished stands = absurd (omega arith)

-- so it was open for that number too
pub was_open_for : (reply : Reply) (bytes piece : List ℕ) (other : ℕ) → 0 < length piece → length piece ≤ wanted_of reply
    → is_enough (method_of reply) other (length (statuses_of reply)) ≡ false → Holds bytes reply → WasOpen (method_of reply) other (bytes ++ piece)
was_open_for reply bytes piece other some within unfinished holds =
    let wants : 0 < wanted_at reply.stage = omega (arith, some, within) in
    was_open_at (method_of reply) other bytes reply.head.items piece reply.stage some within
    (stands_for (method_of reply) (most_of reply) other bytes reply.head.items reply.stage wants unfinished holds)

-- what a response that took a piece says of it
pub goes_on : (reply : Reply) (piece : List ℕ) (old new : Option (List ℕ)) → 0 < length piece → length piece ≤ wanted_of reply → Consumes old new piece
    → (result : Result Reply AskFault) → IfOk result (λ after. (bytes : List ℕ) → Holds bytes reply → Holds (bytes ++ piece) after)
    → IfOk result (λ after. (bytes : List ℕ) → Holds bytes reply → Grows (method_of reply) (bytes ++ piece) (statuses_of reply) (statuses_of after))
    → IfOk result (λ after. (bytes : List ℕ) × Consumes old new bytes × ((front : List ℕ) → Holds front reply → GoesTo (front ++ bytes) reply after))
goes_on reply piece old new some within read (Ok after) gives grows = (
  piece,
  read,
  λ front holds. record {
    holds = gives front holds;
    was_open = was_open reply front piece some within holds;
    was_open_for = λ other unfinished. was_open_for reply front piece other some within unfinished holds;
    grows = grows front holds;
  },
)
goes_on reply piece old new some within read (Err fault) gives grows = tt
