-- The content of a body is frames in one way, and means one thing.
use Rattle.std.proofs.Common.{ℕ, ◌≡◌, ◌≢◌, ◌+◌, ◌^◌, ◌<◌, ◌≤◌, ◌⊎◌, Bool, true, false, nat_le, nat_lt, List, [], ◌∷◌, ◌++◌, length, drop, refl, sym, ap, ◌∙◌, subst, inl, arith, length-append}
use Rattle.std.proofs.lemmas.List.{append-nil}
use Rattle.std.proofs.lemmas.List.Elements.{All-nil, All-cons, All-head, All-tail, All-append}
use Rattle.std.proofs.lemmas.Grind.{flat_map-append}
use Rattle.std.proofs.lemmas.Nat.{from_be_bytes-to_be_bytes_4}
use Rattle.std.specs.List.{AllZip}
use Rattle.std.specs.Prelude.{All, Some, None, Result, Ok, Err}
use Rattle.grpc_frame.specs.Frame.{frame}
use Rattle.grpc_frame.specs.Lines.{lines}
use Rattle.grpc_frame.specs.Split.{AreAllFrames, AreFrames, BeginsWithFrame, BeginsWithNoFrame, bytes_of, max_content_len}
use Rattle.grpc_frame.specs.Trailers.{trailers_in}
use Rattle.grpc_frame.specs.declared.fault.TrailerFault.{TrailerFault}
use Rattle.grpc_frame.proofs.Runs.{frames_behind, one_frame, too_long_whole}
use Rattle.health_wire.specs.Message.{IsFault}
use Rattle.health_wire.specs.Response.{number_of}
use Rattle.health_wire.specs.declared.fault.WireFault.{WireFault}
use Rattle.health_wire.proofs.MessageLemmas.{no_message, one_message}
use Rattle.web_call.specs.declared.method.Method.{Method}
use Rattle.web_call.specs.declared.method.Method.TheVariants.{Check, Watch}
use Rattle.client.specs.declared.response_body.Next.{Next}
use Rattle.client.specs.GrpcFrames.{HasStatus, IsSoundFront}
use Rattle.client.specs.Meaning.{Meaning, Bad, Open, Telling}
use Rattle.client.specs.Reply.{is_enough}
use Rattle.client.specs.ResponseBody.{left_of, wanted_by}
use Rattle.client.proofs.ReplyLemmas.{no_frame}

-- a frame's flag and content
abbrev pub Frame : Type 0
Frame = ℕ × List ℕ

-- messages have one list of statuses
zip_one : (frames : List Frame) (a b : List ℕ) → AllZip HasStatus frames a → AllZip HasStatus frames b → a ≡ b
zip_one [] [] [] is also = refl
zip_one [] [] (status ∷ b) is also = absurd also
zip_one [] (status ∷ a) b is also = absurd is
zip_one (one ∷ frames) [] b is also = absurd is
zip_one (one ∷ frames) (status ∷ a) [] is also = absurd also
zip_one (one ∷ frames) (status ∷ a) (other ∷ b) is also =
    let first : status ≡ other = is.0.1.number_is ∙ ap number_of (one_message one.1 is.0.1.fields also.0.1.fields is.0.1.message also.0.1.message) ∙ sym also.0.1.number_is in
    let rest = zip_one frames a b is.1 also.1 in
    λ i. first i ∷ rest i

-- the last of them is one too
zip_last : (frames : List Frame) (last : Frame) (statuses : List ℕ) → AllZip HasStatus (frames ++ last ∷ []) statuses → (status : ℕ) × HasStatus last status
zip_last [] last [] is = absurd is
zip_last [] last (status ∷ statuses) is = (status, is.0)
zip_last (one ∷ frames) last [] is = absurd is
zip_last (one ∷ frames) last (status ∷ statuses) is = zip_last frames last statuses is.1

-- the flag of a frame of a response
abbrev pub HasFlag : Frame → Type 0
HasFlag one = (one.0 ≡ 0) ⊎ (one.0 ≡ 128)

pub zip_flags : (frames : List Frame) (statuses : List ℕ) → AllZip HasStatus frames statuses → All HasFlag frames
zip_flags [] statuses is = All-nil HasFlag
zip_flags (one ∷ frames) [] is = absurd is
zip_flags (one ∷ frames) (status ∷ statuses) is = All-cons HasFlag one frames (inl is.0.0) (zip_flags frames statuses is.1)

-- two lists with one more at their ends
ends_same : (a b : List Frame) (x y : Frame) → a ++ x ∷ [] ≡ b ++ y ∷ [] → (a ≡ b) × (x ≡ y)
ends_same [] [] x y same = (refl, cc)
ends_same [] (b ∷ ys) x y same =
    let len : 1 ≡ length (b ∷ ys) + 1 = ap length same ∙ length-append (b ∷ ys) (y ∷ []) in absurd (omega (arith, len))
ends_same (a ∷ xs) [] x y same =
    let len : 1 ≡ length (a ∷ xs) + 1 = ap length (sym same) ∙ length-append (a ∷ xs) (x ∷ []) in absurd (omega (arith, len))
ends_same (a ∷ xs) (b ∷ ys) x y same =
    let first : a ≡ b = cc in
    let behind : xs ++ x ∷ [] ≡ ys ++ y ∷ [] = ap (drop 1) same in
    let rest = ends_same xs ys x y behind in
    (λ i. first i ∷ rest.0 i, rest.1)

-- what messages mean, whether they are enough, and whether the body is over
abbrev pub messages_mean : Method → (enough over : Bool) → (statuses rest : List ℕ) → Meaning
messages_mean method true over statuses rest = Telling statuses None
messages_mean method false false statuses rest = Open
messages_mean method false true statuses (byte ∷ rest) = Bad
messages_mean Check false true statuses [] = Bad
messages_mean Watch false true statuses [] = Telling statuses None

-- what trailers mean, whether bytes are left behind them
abbrev pub trailers_mean : Bool → Result (ℕ × List ℕ) TrailerFault → List ℕ → Meaning
trailers_mean true read statuses = Bad
trailers_mean false (Err fault) statuses = Bad
trailers_mean false (Ok words) statuses = Telling statuses (Some words)

-- nothing more is wanted of the body
abbrev pub is_over : Next → Bool
is_over next = nat_le (wanted_by next) 0

-- what frames and the rest mean: messages alone; messages, and trailers behind them; or messages, and a bad one behind them
pub data Reads (method : Method) (most : ℕ) (next : Next) (frames : List Frame) (rest : List ℕ) (meaning : Meaning) : Type 0 where
  Messages : (statuses : List ℕ) → AllZip HasStatus frames statuses
      → meaning ≡ messages_mean method (is_enough method most (length statuses)) (is_over next) statuses rest → Reads method most next frames rest meaning
  Trailers : (before : List Frame) (block statuses : List ℕ) → frames ≡ before ++ (128, block) ∷ [] → AllZip HasStatus before statuses
      → meaning ≡ trailers_mean (nat_lt 0 (left_of next)) (trailers_in (lines block)) statuses → Reads method most next frames rest meaning
  Fault : (before : List Frame) (message : List ℕ) (fault : WireFault) → frames ≡ before ++ (0, message) ∷ [] → IsFault message fault
      → meaning ≡ Bad → Reads method most next frames rest meaning

-- trailers are no message
no_trailers : (frames before : List Frame) (block statuses : List ℕ) → frames ≡ before ++ (128, block) ∷ [] → ¬ AllZip HasStatus frames statuses
no_trailers frames before block statuses same each =
    let last = zip_last before (128, block) statuses (subst (λ (all : List Frame). AllZip HasStatus all statuses) same each) in
    let flag : 128 ≡ 0 = last.1.0 in omega (arith, flag)

-- a bad message is none
no_fault : (frames before : List Frame) (message statuses : List ℕ) (fault : WireFault) → frames ≡ before ++ (0, message) ∷ [] → IsFault message fault
    → ¬ AllZip HasStatus frames statuses
no_fault frames before message statuses fault same wrong each =
    let last = zip_last before (0, message) statuses (subst (λ (all : List Frame). AllZip HasStatus all statuses) same each) in
    no_message message fault last.1.1.fields wrong last.1.1.message

-- a bad message is no trailers
no_both : (frames before other : List Frame) (block message : List ℕ) → frames ≡ before ++ (128, block) ∷ [] → frames ≢ other ++ (0, message) ∷ []
no_both frames before other block message same also =
    let last = (ends_same before other (128, block) (0, message) (sym same ∙ also)).1 in
    let flag : 128 ≡ 0 = ap (λ (one : Frame). one.0) last in omega (arith, flag)

-- frames mean one thing
pub one_reading : (method : Method) (most : ℕ) (next : Next) (frames : List Frame) (rest : List ℕ) (a b : Meaning) → Reads method most next frames rest a
    → Reads method most next frames rest b → a ≡ b
one_reading method most next frames rest a b (Messages statuses each is) (Messages others also said) =
    let same = zip_one frames statuses others each also in
    is ∙ ap (λ (all : List ℕ). messages_mean method (is_enough method most (length all)) (is_over next) all rest) same ∙ sym said
one_reading method most next frames rest a b (Messages statuses each is) (Trailers before block others same also said) =
    absurd (no_trailers frames before block statuses same each)
one_reading method most next frames rest a b (Messages statuses each is) (Fault before message fault same wrong said) =
    absurd (no_fault frames before message statuses fault same wrong each)
one_reading method most next frames rest a b (Trailers before block statuses same each is) (Messages others also said) =
    absurd (no_trailers frames before block others same also)
one_reading method most next frames rest a b (Trailers before block statuses same each is) (Trailers other text others more also said) =
    let ends = ends_same before other (128, block) (128, text) (sym same ∙ more) in
    let told = zip_one before statuses others each (subst (λ (all : List Frame). AllZip HasStatus all others) (sym ends.0) also) in
    is ∙ (λ i. trailers_mean (nat_lt 0 (left_of next)) (trailers_in (lines (ends.1 i).1)) (told i)) ∙ sym said
one_reading method most next frames rest a b (Trailers before block statuses same each is) (Fault other message fault more wrong said) =
    absurd (no_both frames before other block message same more)
one_reading method most next frames rest a b (Fault before message fault same wrong is) (Messages others also said) =
    absurd (no_fault frames before message others fault same wrong also)
one_reading method most next frames rest a b (Fault before message fault same wrong is) (Trailers other block others more also said) =
    absurd (no_both frames other before block message more same)
one_reading method most next frames rest a b (Fault before message fault same wrong is) (Fault other text also more never said) = is ∙ sym said

-- a frame that is whole begins as a frame of a response has to
pub sound_frame : (more : ℕ) (bytes content rest : List ℕ) (flag : ℕ) → HasFlag (flag, content) → BeginsWithFrame bytes flag content rest → IsSoundFront more bytes
sound_frame more bytes content rest flag has front =
    subst (IsSoundFront more) (sym front.parts) (record {
      flagged = has;
      fits =
          let fits : length content < 2 ^ 32 = omega (arith, front.fits) in
          let len = from_be_bytes-to_be_bytes_4 (length content) fits in
          let within : length content ≤ length (content ++ rest) + more = omega (arith, length-append content rest) in
          subst (λ (n : ℕ). n ≤ length (content ++ rest) + more) (sym len) within;
      short = λ long. too_long_whole (frame flag content ++ rest) content rest flag long (record { fits = front.fits; parts = refl });
    })

-- a rest behind fewer frames begins with one of the others, or is their rest
pub rest_sound : (more : ℕ) (bytes rest last : List ℕ) (frames all : List Frame) → AreFrames bytes frames rest → AreFrames bytes all last → All HasFlag all
    → BeginsWithNoFrame last → IsSoundFront more last → IsSoundFront more rest
rest_sound more bytes rest last [] [] are also flags none sound = subst (IsSoundFront more) (sym also.parts ∙ are.parts) sound
rest_sound more bytes rest last [] (one ∷ all) are also flags none sound =
    let front = (frames_behind bytes one.1 last all one.0 also).0 in
    subst (IsSoundFront more) are.parts (sound_frame more bytes one.1 (bytes_of all ++ last) one.0 (All-head HasFlag one all flags) front)
rest_sound more bytes rest last (one ∷ frames) [] are also flags none sound =
    let front = (frames_behind bytes one.1 rest frames one.0 are).0 in
    absurd (none one.0 one.1 (bytes_of frames ++ rest) (subst (λ (b : List ℕ). BeginsWithFrame b one.0 one.1 (bytes_of frames ++ rest)) also.parts front))
rest_sound more bytes rest last (one ∷ frames) (two ∷ all) are also flags none sound =
    let here = frames_behind bytes one.1 rest frames one.0 are in
    let there = frames_behind bytes two.1 last all two.0 also in
    let same = one_frame bytes one.1 (bytes_of frames ++ rest) two.1 (bytes_of all ++ last) one.0 two.0 here.0 there.0 in
    rest_sound more (bytes_of frames ++ rest) rest last frames all here.1
    (subst (λ (b : List ℕ). AreFrames b all last) (sym same.2) there.1) (All-tail HasFlag two all flags) none sound

-- content that tells statuses up to a frame is one frame more, and no rest
pub one_more : (content rest body : List ℕ) (flag : ℕ) (frames : List Frame) → AreFrames content frames rest → rest ≡ frame flag body → length body ≤ max_content_len
    → AreAllFrames content (frames ++ (flag, body) ∷ []) []
one_more content rest body flag frames are is fits = record {
  are = record {
    fit = All-append (λ (any : Frame). length any.1 ≤ max_content_len) frames ((flag, body) ∷ []) are.fit
        (All-cons (λ (any : Frame). length any.1 ≤ max_content_len) (flag, body) [] fits (All-nil (λ (any : Frame). length any.1 ≤ max_content_len)));
    parts = are.parts
        ∙ ap (λ (all : List ℕ). bytes_of frames ++ all) (is ∙ sym (append-nil (frame flag body)))
        ∙ sym (flat_map-append (λ (any : Frame). frame any.0 any.1) frames ((flag, body) ∷ []))
        ∙ sym (append-nil (bytes_of (frames ++ (flag, body) ∷ [])));
  };
  ends = no_frame;
}
