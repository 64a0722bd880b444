-- Bytes have one meaning to a call at most.
use Rattle.std.proofs.Common.{ℕ, ◌≡◌, ◌≢◌, ◌<◌, ◌≤◌, ◌⊎◌, Bool, true, false, nat_lt, List, [], ◌∷◌, ◌++◌, length, refl, sym, ap, ◌∙◌, subst, inl, inr, arith}
use Rattle.std.proofs.lemmas.List.{append-nil}
use Rattle.std.proofs.lemmas.List.Elements.{All-nil, All-cons, All-append}
use Rattle.std.proofs.lemmas.Bool.{lt-leb}
use Rattle.std.proofs.lemmas.Bool.Decides.{nat_tests}
use Rattle.std.specs.List.{AllZip}
use Rattle.std.specs.Prelude.{All, Option, Result, Ok, Err}
use Rattle.grpc_frame.specs.Frame.{frame}
use Rattle.grpc_frame.specs.Lines.{lines}
use Rattle.grpc_frame.specs.Split.{AreAllFrames, AreFrames, BeginsWithNoFrame, max_content_len}
use Rattle.grpc_frame.specs.Trailers.{trailers_in}
use Rattle.grpc_frame.specs.declared.fault.TrailerFault.{TrailerFault}
use Rattle.grpc_frame.proofs.Runs.{one_split}
use Rattle.web_call.specs.InputHead.{IsHead, IsOpenHead}
use Rattle.web_call.specs.declared.method.Method.{Method}
use Rattle.web_call.specs.declared.method.Method.TheVariants.{Check, Watch}
use Rattle.client.specs.declared.ask_fault.AskFault.{AskFault}
use Rattle.client.specs.declared.ask_fault.AskFault.TheVariants.{Read, Write, BadResponse, Http, NoMemory}
use Rattle.client.specs.declared.http_framing.Framing.{Framing}
use Rattle.client.specs.declared.response_body.Next.{Next}
use Rattle.client.specs.declared.response_body.Next.TheVariants.{Last}
use Rattle.client.specs.declared.told.Ended.{Ended}
use Rattle.client.specs.GrpcFrames.{HasStatus, IsSoundFront}
use Rattle.client.specs.HttpFraming.{IsFramed}
use Rattle.client.specs.Meaning.{Meaning, Bad, Means, Open, Refused, Telling, words_of}
use Rattle.client.specs.Reply.{BadMessage, BadTrailers, Behind, ByBody, ByContent, ByCount, ByEnd, ByHead, ByTrailers, CutFrame, InBody, InHead, IsBad, IsBadRest, IsOpen, IsReply, IsTold, NoTrailers, NotSound, is_enough}
use Rattle.client.specs.ResponseBody.{IsBadBody, Stands, left_of, wanted_by}
use Rattle.client.proofs.GrpcFrameLemmas.{zip_push}
use Rattle.client.proofs.OneBodyLemmas.{bad_nowhere, one_place}
use Rattle.client.proofs.OneContentLemmas.{Fault, HasFlag, Messages, Reads, Trailers, is_over, messages_mean, one_more, one_reading, rest_sound, trailers_mean, zip_flags}
use Rattle.client.proofs.OneHeadLemmas.{one_framed, one_head, open_no_head}
use Rattle.client.proofs.ReplyLemmas.{no_frame, sound_start}

-- bytes are a head that frames a body, and bytes of that
record HasBody (method : Method) (bytes : List ℕ) : Type 0 where
  head : List ℕ
  body : List ℕ
  framing : Framing
  parts : bytes ≡ head ++ body
  is_head : IsHead head
  framed : IsFramed method head (Ok framing)

-- all frames of the content, and what they mean; where that is nothing bad, each frame and the rest begin right
record HasContent (method : Method) (most : ℕ) (bytes : List ℕ) (meaning : Meaning) : Type 0 where
  has : HasBody method bytes
  content : List ℕ
  next : Next
  more : ℕ
  frames : List (ℕ × List ℕ)
  rest : List ℕ
  stands : Stands has.framing has.body content next more
  all : AreAllFrames content frames rest
  reads : Reads method most next frames rest meaning
  sound : (meaning ≡ Bad) ⊎ (All HasFlag frames × IsSoundFront more rest)

-- some frames of the content, behind which nothing right begins
record IsUnsound (method : Method) (bytes : List ℕ) : Type 0 where
  has : HasBody method bytes
  content : List ℕ
  next : Next
  more : ℕ
  frames : List (ℕ × List ℕ)
  rest : List ℕ
  stands : Stands has.framing has.body content next more
  are : AreFrames content frames rest
  wrong : ¬ IsSoundFront more rest

-- what a head means that frames no body, by its fault
abbrev fault_means : AskFault → Meaning → Type 0
fault_means Read meaning = ⊥
fault_means Write meaning = ⊥
fault_means BadResponse meaning = meaning ≡ Bad
fault_means (Http status) meaning = meaning ≡ Refused status
fault_means NoMemory meaning = ⊥

-- how bytes come to mean something
data Cause (method : Method) (most : ℕ) (bytes : List ℕ) (meaning : Meaning) : Type 0 where
  ByOpenHead : IsOpenHead bytes → meaning ≡ Open → Cause method most bytes meaning
  ByWholeHead : (fault : AskFault) → IsHead bytes → IsFramed method bytes (Err fault) → fault_means fault meaning → Cause method most bytes meaning
  ByChunks : (has : HasBody method bytes) → IsBadBody has.framing has.body → meaning ≡ Bad → Cause method most bytes meaning
  ByFrames : HasContent method most bytes meaning → Cause method most bytes meaning
  ByFront : IsUnsound method bytes → meaning ≡ Bad → Cause method most bytes meaning

-- content without a frame at its end
content_of_all : (method : Method) (most : ℕ) (bytes : List ℕ) (next : Next) (more : ℕ) (statuses rest : List ℕ) (meaning : Meaning)
    → (reply : IsReply method bytes next more statuses rest) → BeginsWithNoFrame rest
    → meaning ≡ messages_mean method (is_enough method most (length statuses)) (is_over next) statuses rest
    → (meaning ≡ Bad) ⊎ IsSoundFront more rest → Cause method most bytes meaning
content_of_all method most bytes next more statuses rest meaning reply none means sound = ByFrames (record {
  has = record { head = reply.head; body = reply.body; framing = reply.framing; parts = reply.parts; is_head = reply.is_head; framed = reply.framed };
  content = reply.content;
  next = next;
  more = more;
  frames = reply.tells.frames;
  rest = rest;
  stands = reply.stands;
  all = record { are = reply.tells.are; ends = none };
  reads = Messages statuses reply.tells.each means;
  sound = elim sound [ inl bad ↦ inl bad | inr right ↦ inr (zip_flags reply.tells.frames statuses reply.tells.each, right) ];
})

-- content with one more frame at its end
content_of_more : (method : Method) (most : ℕ) (bytes : List ℕ) (next : Next) (more : ℕ) (statuses rest body : List ℕ) (flag : ℕ) (meaning : Meaning)
    → (reply : IsReply method bytes next more statuses rest) → rest ≡ frame flag body → length body ≤ max_content_len → HasFlag (flag, body)
    → Reads method most next (reply.tells.frames ++ (flag, body) ∷ []) [] meaning → Cause method most bytes meaning
content_of_more method most bytes next more statuses rest body flag meaning reply is fits has reads = ByFrames (record {
  has = record { head = reply.head; body = reply.body; framing = reply.framing; parts = reply.parts; is_head = reply.is_head; framed = reply.framed };
  content = reply.content;
  next = next;
  more = more;
  frames = reply.tells.frames ++ (flag, body) ∷ [];
  rest = [];
  stands = reply.stands;
  all = one_more reply.content rest body flag reply.tells.frames reply.tells.are is fits;
  reads = reads;
  sound = inr (
    All-append HasFlag reply.tells.frames ((flag, body) ∷ []) (zip_flags reply.tells.frames statuses reply.tells.each) (All-cons HasFlag (flag, body) [] has (All-nil HasFlag)),
    sound_start more,
  );
})

-- the end of a body
over : (next : Next) → next ≡ Last 0 → is_over next ≡ true
over next is = ap is_over is

-- what is told, by its cause
told_cause : (method : Method) (most : ℕ) (bytes told : List ℕ) (end : Option Ended) → IsTold method most bytes told end
    → Cause method most bytes (Telling told (words_of end))
told_cause method most bytes told end (ByTrailers next more block ended ends fits unfinished none trailers same) =
    content_of_more method most bytes next more told (frame 128 block) block 128 (Telling told (words_of end)) ends.reply refl fits (inr refl)
    (Trailers ends.reply.tells.frames block told refl ends.reply.tells.each
    (ap (λ (e : Option Ended). Telling told (words_of e)) same
    ∙ sym (ap (λ (n : ℕ). trailers_mean (nat_lt 0 n) (trailers_in (lines block)) told) none ∙ ap (λ (r : Result (ℕ × List ℕ) TrailerFault). trailers_mean false r told) trailers)))
told_cause method most bytes told end (ByCount next more statuses message status ends fits unfinished response push enough none) =
    content_of_more method most bytes next more statuses (frame 0 message) message 0 (Telling told (words_of end)) ends.reply refl fits (inl refl)
    (Messages told (subst (AllZip HasStatus (ends.reply.tells.frames ++ (0, message) ∷ [])) (sym push)
    (zip_push ends.reply.tells.frames statuses (0, message) status ends.reply.tells.each (refl, response)))
    (ap (λ (e : Option Ended). Telling told (words_of e)) none ∙ sym (ap (λ (b : Bool). messages_mean method b (is_over next) told []) enough)))
told_cause Watch most bytes told end (ByEnd more watch reply unfinished none) =
    content_of_all Watch most bytes (Last 0) more told [] (Telling told (words_of end)) reply no_frame
    (ap (λ (e : Option Ended). Telling told (words_of e)) none ∙ sym (ap (λ (b : Bool). messages_mean Watch b true told []) unfinished)) (inr (sound_start more))
told_cause Check most bytes told end (ByEnd more watch reply unfinished none) = cc

-- what is open
open_cause : (method : Method) (most : ℕ) (bytes : List ℕ) → IsOpen method most bytes → Cause method most bytes Open
open_cause method most bytes (InHead is_open) = ByOpenHead is_open refl
open_cause method most bytes (InBody next more statuses rest going wants) =
    content_of_all method most bytes next more statuses rest Open going.reply going.none
    (sym (ap (λ (b : Bool). messages_mean method b (is_over next) statuses rest) going.unfinished
    ∙ ap (λ (b : Bool). messages_mean method false b statuses rest) (lt-leb (wanted_by next) 0 wants))) (inr going.sound)

-- messages at the end of a body, within a frame
cut_means : (method : Method) (statuses rest : List ℕ) → 0 < length rest → Bad ≡ messages_mean method false true statuses rest
cut_means method statuses [] some = absurd (omega (arith, some))
cut_means method statuses (byte ∷ rest) some = refl

-- trailers that cannot be read
fault_trailers : (left : Bool) (fault : TrailerFault) (statuses : List ℕ) → Bad ≡ trailers_mean left (Err fault) statuses
fault_trailers true fault statuses = refl
fault_trailers false fault statuses = refl

-- bytes left behind trailers
left_test : (left : ℕ) → 0 < left → nat_lt 0 left ≡ true
left_test left some = grind (arith, nat_tests)

-- what is bad in the content
rest_cause : (method : Method) (most : ℕ) (bytes : List ℕ) (next : Next) (more : ℕ) (statuses rest : List ℕ) → IsReply method bytes next more statuses rest
    → is_enough method most (length statuses) ≡ false → IsBadRest method next more rest → Cause method most bytes Bad
rest_cause method most bytes next more statuses rest reply unfinished (NotSound wrong) = ByFront (record {
  has = record { head = reply.head; body = reply.body; framing = reply.framing; parts = reply.parts; is_head = reply.is_head; framed = reply.framed };
  content = reply.content;
  next = next;
  more = more;
  frames = reply.tells.frames;
  rest = rest;
  stands = reply.stands;
  are = reply.tells.are;
  wrong = wrong;
}) refl
rest_cause method most bytes next more statuses rest reply unfinished (BadMessage message fault is fits wrong) =
    content_of_more method most bytes next more statuses rest message 0 Bad reply is fits (inl refl) (Fault reply.tells.frames message fault refl wrong refl)
rest_cause method most bytes next more statuses rest reply unfinished (BadTrailers block fault is fits wrong) =
    content_of_more method most bytes next more statuses rest block 128 Bad reply is fits (inr refl) (Trailers reply.tells.frames block statuses refl reply.tells.each
    (fault_trailers (nat_lt 0 (left_of next)) fault statuses ∙ sym (ap (λ (r : Result (ℕ × List ℕ) TrailerFault). trailers_mean (nat_lt 0 (left_of next)) r statuses) wrong)))
rest_cause method most bytes next more statuses rest reply unfinished (Behind block is fits left) =
    content_of_more method most bytes next more statuses rest block 128 Bad reply is fits (inr refl) (Trailers reply.tells.frames block statuses refl reply.tells.each
    (sym (ap (λ (b : Bool). trailers_mean b (trailers_in (lines block)) statuses) (left_test (left_of next) left))))
rest_cause method most bytes next more statuses rest reply unfinished (CutFrame last some none) =
    content_of_all method most bytes next more statuses rest Bad reply none
    (cut_means method statuses rest some
    ∙ sym (ap (λ (b : Bool). messages_mean method b (is_over next) statuses rest) unfinished ∙ ap (λ (b : Bool). messages_mean method false b statuses rest) (over next last)))
    (inl refl)
rest_cause Watch most bytes next more statuses rest reply unfinished (NoTrailers check last empty) = cc
rest_cause Check most bytes next more statuses rest reply unfinished (NoTrailers check last empty) =
    content_of_all Check most bytes next more statuses rest Bad reply (subst BeginsWithNoFrame (sym empty) no_frame)
    (sym (ap (λ (b : Bool). messages_mean Check false b statuses rest) (over next last) ∙ ap (messages_mean Check false true statuses) empty))
    (inl refl)

-- what is bad
bad_cause : (method : Method) (most : ℕ) (bytes : List ℕ) → IsBad method most bytes → Cause method most bytes Bad
bad_cause method most bytes (ByHead is framed) = ByWholeHead BadResponse is framed refl
bad_cause method most bytes (ByBody head body framing parts is_head framed wrong) =
    ByChunks (record { head = head; body = body; framing = framing; parts = parts; is_head = is_head; framed = framed }) wrong refl
bad_cause method most bytes (ByContent next more statuses rest reply unfinished wrong) = rest_cause method most bytes next more statuses rest reply unfinished wrong

-- each meaning has such a cause
cause_of : (method : Method) (most : ℕ) (bytes : List ℕ) (meaning : Meaning) → Means method most bytes meaning → Cause method most bytes meaning
cause_of method most bytes (Telling statuses end) means =
    subst (λ (e : Option (ℕ × List ℕ)). Cause method most bytes (Telling statuses e)) (sym means.2) (told_cause method most bytes statuses means.0 means.1)
cause_of method most bytes Open means = open_cause method most bytes means
cause_of method most bytes Bad means = bad_cause method most bytes means
cause_of method most bytes (Refused status) means = ByWholeHead (Http status) means.is_head (means.framed method) refl

-- an open head has no body behind it
open_no_body : (method : Method) (bytes : List ℕ) → IsOpenHead bytes → ¬ HasBody method bytes
open_no_body method bytes is_open has = open_no_head bytes has.head has.body is_open has.parts has.is_head

open_no_whole : (bytes : List ℕ) → IsOpenHead bytes → ¬ IsHead bytes
open_no_whole bytes is_open is = open_no_head bytes bytes [] is_open (sym (append-nil bytes)) is

-- an answer is one fault, or one framing
never_both : (said : Result Framing AskFault) (fault : AskFault) (framing : Framing) → said ≡ Err fault → said ≢ Ok framing
never_both said fault framing is also = cc

same_fault : (said : Result Framing AskFault) (fault other : AskFault) → said ≡ Err fault → said ≡ Err other → fault ≡ other
same_fault said fault other is also = cc

same_framing : (said : Result Framing AskFault) (framing other : Framing) → said ≡ Ok framing → said ≡ Ok other → framing ≡ other
same_framing said framing other is also = cc

-- what frames no body has none
whole_no_body : (method : Method) (bytes : List ℕ) (fault : AskFault) → IsHead bytes → IsFramed method bytes (Err fault) → ¬ HasBody method bytes
whole_no_body method bytes fault is framed has =
    let same : bytes ≡ has.head = (one_head bytes [] has.head has.body (append-nil bytes ∙ has.parts) is has.is_head).0 in
    never_both (Err fault) fault has.framing refl
    (one_framed method has.head (Err fault) (Ok has.framing) (subst (λ (b : List ℕ). IsFramed method b (Err fault)) same framed) has.framed)

-- one fault means one thing
fault_one : (fault : AskFault) (a b : Meaning) → fault_means fault a → fault_means fault b → a ≡ b
fault_one Read a b is also = absurd is
fault_one Write a b is also = absurd is
fault_one BadResponse a b is also = is ∙ sym also
fault_one (Http status) a b is also = is ∙ sym also
fault_one NoMemory a b is also = absurd is

one_fault : (fault other : AskFault) (a b : Meaning) → fault ≡ other → fault_means fault a → fault_means other b → a ≡ b
one_fault fault other a b same is also = fault_one fault a b is (subst (λ (f : AskFault). fault_means f b) (sym same) also)

-- the same framing and the same body
same_body : (method : Method) (bytes : List ℕ) (a b : HasBody method bytes) (P : Framing → List ℕ → Type 0) → P b.framing b.body → P a.framing a.body
same_body method bytes a b P holds =
    let heads = one_head a.head a.body b.head b.body (sym a.parts ∙ b.parts) a.is_head b.is_head in
    let framings = same_framing (Ok a.framing) a.framing b.framing refl
    (one_framed method b.head (Ok a.framing) (Ok b.framing) (subst (λ (h : List ℕ). IsFramed method h (Ok a.framing)) heads.0 a.framed) b.framed) in
    subst (λ (f : Framing). P f a.body) (sym framings) (subst (P b.framing) (sym heads.1) holds)

-- bad chunks have no content
chunks_no_content : (method : Method) (bytes : List ℕ) (a b : HasBody method bytes) (content : List ℕ) (next : Next) (more : ℕ) → IsBadBody a.framing a.body
    → ¬ Stands b.framing b.body content next more
chunks_no_content method bytes a b content next more wrong stands =
    bad_nowhere a.framing a.body content next more wrong (same_body method bytes a b (λ framing body. Stands framing body content next more) stands)

-- all frames of the content mean one thing
one_content : (method : Method) (most : ℕ) (bytes : List ℕ) (a b : Meaning) → HasContent method most bytes a → HasContent method most bytes b → a ≡ b
one_content method most bytes a b one two =
    let stands = same_body method bytes one.has two.has (λ framing body. Stands framing body two.content two.next two.more) two.stands in
    let place = one_place one.has.framing one.has.body one.content two.content one.next two.next one.more two.more one.stands stands in
    let split = one_split one.content one.frames two.frames one.rest two.rest one.all (subst (λ (c : List ℕ). AreAllFrames c two.frames two.rest) (sym place.contents) two.all) in
    one_reading method most one.next one.frames one.rest a b one.reads
    (subst (λ (r : List ℕ). Reads method most one.next one.frames r b) (sym split.1)
    (subst (λ (f : List (ℕ × List ℕ)). Reads method most one.next f two.rest b) (sym split.0)
    (subst (λ (n : Next). Reads method most n two.frames two.rest b) (sym place.nexts) two.reads)))

-- what begins wrong somewhere is bad
front_bad : (method : Method) (most : ℕ) (bytes : List ℕ) (meaning : Meaning) → HasContent method most bytes meaning → IsUnsound method bytes → meaning ≡ Bad
front_bad method most bytes meaning one two =
    let stands = same_body method bytes one.has two.has (λ framing body. Stands framing body two.content two.next two.more) two.stands in
    let place = one_place one.has.framing one.has.body one.content two.content one.next two.next one.more two.more one.stands stands in
    elim one.sound [
      | inl bad ↦ bad
      | inr right ↦
          absurd (two.wrong (rest_sound two.more one.content two.rest one.rest two.frames one.frames
          (subst (λ (c : List ℕ). AreFrames c two.frames two.rest) (sym place.contents) two.are) one.all.are right.0 one.all.ends
          (subst (λ (n : ℕ). IsSoundFront n one.rest) place.mores right.1)))
    ]

-- one cause of each two
one_cause : (method : Method) (most : ℕ) (bytes : List ℕ) (a b : Meaning) → Cause method most bytes a → Cause method most bytes b → a ≡ b
one_cause method most bytes a b (ByOpenHead is_open is) (ByOpenHead also said) = is ∙ sym said
one_cause method most bytes a b (ByOpenHead is_open is) (ByWholeHead fault also framed means) = absurd (open_no_whole bytes is_open also)
one_cause method most bytes a b (ByOpenHead is_open is) (ByChunks has wrong said) = absurd (open_no_body method bytes is_open has)
one_cause method most bytes a b (ByOpenHead is_open is) (ByFrames content) = absurd (open_no_body method bytes is_open content.has)
one_cause method most bytes a b (ByOpenHead is_open is) (ByFront content said) = absurd (open_no_body method bytes is_open content.has)
one_cause method most bytes a b (ByWholeHead fault whole framed means) (ByOpenHead also said) = absurd (open_no_whole bytes also whole)
one_cause method most bytes a b (ByWholeHead fault whole framed means) (ByWholeHead other also says mean) =
    one_fault fault other a b (same_fault (Err fault) fault other refl (one_framed method bytes (Err fault) (Err other) framed says)) means mean
one_cause method most bytes a b (ByWholeHead fault whole framed means) (ByChunks has wrong said) = absurd (whole_no_body method bytes fault whole framed has)
one_cause method most bytes a b (ByWholeHead fault whole framed means) (ByFrames content) = absurd (whole_no_body method bytes fault whole framed content.has)
one_cause method most bytes a b (ByWholeHead fault whole framed means) (ByFront content said) = absurd (whole_no_body method bytes fault whole framed content.has)
one_cause method most bytes a b (ByChunks has wrong is) (ByOpenHead also said) = absurd (open_no_body method bytes also has)
one_cause method most bytes a b (ByChunks has wrong is) (ByWholeHead fault whole framed means) = absurd (whole_no_body method bytes fault whole framed has)
one_cause method most bytes a b (ByChunks has wrong is) (ByChunks other bad said) = is ∙ sym said
one_cause method most bytes a b (ByChunks has wrong is) (ByFrames content) =
    absurd (chunks_no_content method bytes has content.has content.content content.next content.more wrong content.stands)
one_cause method most bytes a b (ByChunks has wrong is) (ByFront content said) = is ∙ sym said
one_cause method most bytes a b (ByFrames content) (ByOpenHead also said) = absurd (open_no_body method bytes also content.has)
one_cause method most bytes a b (ByFrames content) (ByWholeHead fault whole framed means) = absurd (whole_no_body method bytes fault whole framed content.has)
one_cause method most bytes a b (ByFrames content) (ByChunks has wrong said) =
    absurd (chunks_no_content method bytes has content.has content.content content.next content.more wrong content.stands)
one_cause method most bytes a b (ByFrames content) (ByFrames other) = one_content method most bytes a b content other
one_cause method most bytes a b (ByFrames content) (ByFront other said) = front_bad method most bytes a content other ∙ sym said
one_cause method most bytes a b (ByFront content is) (ByOpenHead also said) = absurd (open_no_body method bytes also content.has)
one_cause method most bytes a b (ByFront content is) (ByWholeHead fault whole framed means) = absurd (whole_no_body method bytes fault whole framed content.has)
one_cause method most bytes a b (ByFront content is) (ByChunks has wrong said) = is ∙ sym said
one_cause method most bytes a b (ByFront content is) (ByFrames other) = is ∙ sym (front_bad method most bytes b other content)
one_cause method most bytes a b (ByFront content is) (ByFront other said) = is ∙ sym said

-- bytes have one meaning at most
pub one_meaning : (method : Method) (most : ℕ) (bytes : List ℕ) (a b : Meaning) → Means method most bytes a → Means method most bytes b → a ≡ b
one_meaning method most bytes a b is also = one_cause method most bytes a b (cause_of method most bytes a is) (cause_of method most bytes b also)
