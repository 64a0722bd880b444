-- A response with more bytes.
use Rattle.std.proofs.Common.{ℕ, ◌≡◌, ◌⊎◌, ◌-◌, ◌<◌, ◌≤◌, Bool, true, false, List, [], ◌∷◌, ◌++◌, length, take, refl, sym, ap, ◌∙◌, subst, arith, inl, inr, append_assoc, length-append}
use Rattle.std.proofs.Math.Nat.{eq-or-lt_of_le}
use Rattle.std.proofs.lemmas.List.{append-nil, take-append-le}
use Rattle.std.proofs.lemmas.List.Elements.{All-nil}
use Rattle.std.proofs.lemmas.Bool.Decides.{nat_tests}
use Rattle.std.proofs.Math.Seq.{take-length}
use Rattle.std.proofs.lemmas.Bool.{leb-true}
use Rattle.std.proofs.Common.{get_or, min, nat_le, ◌||◌}
use Rattle.std.specs.Prelude.{Ok, if◌then◌else◌}
use Rattle.grpc_frame.specs.Split.{max_content_len}
use Rattle.web_call.specs.InputHead.{IsHead, IsOpenHead, ends_blank, max_head_len}
use Rattle.web_call.specs.declared.method.Method.{Method}
use Rattle.web_call.specs.declared.method.Method.TheVariants.{Check, Watch}
use Rattle.client.specs.declared.http_framing.Framing.{Framing}
use Rattle.client.specs.declared.response_body.Next.{Next}
use Rattle.client.specs.declared.response_body.Next.TheVariants.{Line, Data, End, Last}
use Rattle.client.specs.GrpcFrames.{IsSoundFront}
use Rattle.client.specs.HttpFraming.{IsFramed}
use Rattle.client.specs.Reply.{IsReply, IsGoingOn, IsBad, ByBody, is_enough}
use Rattle.client.specs.ResponseBody.{Stands, GoesOn, IsBadBody, content_of, is_content, left_of, wanted_by}
use Rattle.client.specs.Stages.{IsEnding}
use Rattle.client.proofs.BodyLemmas.{data_more, last_more}
use Rattle.client.proofs.GrpcFrameLemmas.{Tells-more}
use Rattle.client.proofs.ReplyLemmas.{no_frame, sound_start}

-- no status is enough
enough_none : (method : Method) (most : ℕ) → 1 ≤ most → is_enough method most 0 ≡ false
enough_none Check most some = refl
enough_none Watch most some = grind (arith, nat_tests)

-- a head with nothing behind it
begun_on : (method : Method) (most : ℕ) (head : List ℕ) (framing : Framing) (next : Next) (more : ℕ) → 1 ≤ most → IsHead head → IsFramed method head (Ok framing)
    → Stands framing [] [] next more → IsGoingOn method most head next more [] []
begun_on method most head framing next more some is_head framed stands = record {
  reply = record {
    head = head;
    body = [];
    framing = framing;
    content = [];
    parts = sym (append-nil head);
    is_head = is_head;
    framed = framed;
    stands = stands;
    tells = record { frames = []; are = record { fit = All-nil (λ (one : ℕ × List ℕ). length one.1 ≤ max_content_len); parts = refl }; each = tt };
  };
  unfinished = enough_none method most some;
  none = no_frame;
  sound = sound_start more;
}

-- the same where no status and no rest are told otherwise
pub begun_from : (method : Method) (most : ℕ) (head : List ℕ) (framing : Framing) (next : Next) (more : ℕ) (statuses rest : List ℕ) → 1 ≤ most → IsHead head
    → IsFramed method head (Ok framing) → Stands framing [] [] next more → statuses ≡ [] → rest ≡ [] → IsGoingOn method most head next more statuses rest
begun_from method most head framing next more statuses rest some is_head framed stands none empty =
    subst (IsGoingOn method most head next more statuses) (sym empty)
    (subst (λ (all : List ℕ). IsGoingOn method most head next more all []) (sym none) (begun_on method most head framing next more some is_head framed stands))

-- a response with a body that goes on
pub reply_goes : (method : Method) (bytes piece : List ℕ) (next next_after : Next) (more more_after : ℕ) (statuses rest : List ℕ) → GoesOn next more piece next_after more_after
    → IsReply method bytes next more statuses rest → IsReply method (bytes ++ piece) next_after more_after statuses (rest ++ content_of next piece)
reply_goes method bytes piece next next_after more more_after statuses rest goes reply = record {
  head = reply.head;
  body = reply.body ++ piece;
  framing = reply.framing;
  content = reply.content ++ content_of next piece;
  parts = ap (λ (all : List ℕ). all ++ piece) reply.parts ∙ append_assoc reply.head reply.body piece;
  is_head = reply.is_head;
  framed = reply.framed;
  stands = goes reply.framing reply.body reply.content reply.stands;
  tells = Tells-more reply.content statuses rest (content_of next piece) reply.tells;
}

-- bytes that are no content
none_of : (next : Next) (piece : List ℕ) → is_content next ≡ false → content_of next piece ≡ []
none_of (Line part) piece is = refl
none_of (Data left) piece is = cc
none_of (End part) piece is = refl
none_of (Last left) piece is = cc

-- bytes that are content
all_of : (next : Next) (piece : List ℕ) → is_content next ≡ true → content_of next piece ≡ piece
all_of (Line part) piece is = cc
all_of (Data left) piece is = refl
all_of (End part) piece is = cc
all_of (Last left) piece is = refl

-- more of what stands around the content
pub around_on : (method : Method) (most : ℕ) (bytes piece : List ℕ) (next next_after : Next) (more more_after : ℕ) (statuses rest : List ℕ) → is_content next ≡ false
    → GoesOn next more piece next_after more_after → IsGoingOn method most bytes next more statuses rest
    → IsGoingOn method most (bytes ++ piece) next_after more_after statuses rest
around_on method most bytes piece next next_after more more_after statuses rest is goes going =
    let same : rest ++ content_of next piece ≡ rest = ap (λ (all : List ℕ). rest ++ all) (none_of next piece is) ∙ append-nil rest in
    let reply = reply_goes method bytes piece next next_after more more_after statuses rest goes going.reply in
    let len : length (going.reply.content ++ content_of next piece) ≡ length going.reply.content =
    ap (λ (all : List ℕ). length (going.reply.content ++ all)) (none_of next piece is) ∙ ap length (append-nil going.reply.content) in
    let as_many : more ≡ more_after = omega (arith, going.reply.stands.most, (goes going.reply.framing going.reply.body going.reply.content going.reply.stands).most, len) in record {
      reply = subst (IsReply method (bytes ++ piece) next_after more_after statuses) same reply;
      unfinished = going.unfinished;
      none = going.none;
      sound = subst (λ (n : ℕ). IsSoundFront n rest) as_many going.sound;
    }

-- the last of some bytes
pub record HasLast (piece : List ℕ) : Type 0 where
  pub front : List ℕ
  pub byte : ℕ
  pub is : piece ≡ front ++ byte ∷ []
  pub shorter : length front < length piece

pub last_of : (piece : List ℕ) → 0 < length piece → HasLast piece
last_of [] some = absurd (omega arith)
last_of (byte ∷ []) some = record { front = []; byte = byte; is = refl; shorter = omega arith }
last_of (first ∷ byte ∷ rest) some =
    let behind = last_of (byte ∷ rest) (omega arith) in
    record { front = first ∷ behind.front; byte = behind.byte; is = ap (λ (all : List ℕ). first ∷ all) behind.is; shorter = omega (arith, behind.shorter) }

-- a part of the content that is wanted
part_goes : (next : Next) (more : ℕ) (piece : List ℕ) → is_content next ≡ true → length piece < wanted_by next → left_of next ≤ more
    → (n : Next) × (m : ℕ) × GoesOn next more piece n m
part_goes (Line part) more piece is fewer room = cc
part_goes (Data left) more piece is fewer room =
    (Data (left - length piece), more - length piece, λ framing bytes content stands. data_more framing bytes content piece left more fewer (omega arith) stands)
part_goes (End part) more piece is fewer room = cc
part_goes (Last left) more piece is fewer room =
    (Last (left - length piece), more - length piece, λ framing bytes content stands. last_more framing bytes content piece left more (omega arith) (omega arith) (omega arith) stands)

-- more content
pub content_on : (method : Method) (most : ℕ) (bytes piece : List ℕ) (next next_after : Next) (more more_after : ℕ) (statuses rest : List ℕ) → is_content next ≡ true
    → 0 < length piece → length piece ≤ wanted_by next → left_of next ≤ more → GoesOn next more piece next_after more_after
    → IsGoingOn method most bytes next more statuses rest → IsEnding method most (bytes ++ piece) next_after more_after statuses (rest ++ piece)
content_on method most bytes piece next next_after more more_after statuses rest is some within room goes going =
    let last = last_of piece some in
    let part = part_goes next more last.front is (omega (arith, last.shorter)) room in
    let before = reply_goes method bytes last.front next part.0 more part.1 statuses rest part.2 going.reply in
    let reply = reply_goes method bytes piece next next_after more more_after statuses rest goes going.reply in record {
      ends = record {
        reply = subst (λ (all : List ℕ). IsReply method (bytes ++ piece) next_after more_after statuses (rest ++ all)) (all_of next piece is) reply;
        front = bytes ++ last.front;
        byte = last.byte;
        next_before = part.0;
        more_before = part.1;
        part = rest ++ last.front;
        bytes_are = ap (λ (all : List ℕ). bytes ++ all) last.is ∙ sym (append_assoc bytes last.front (last.byte ∷ []));
        rest_is = ap (λ (all : List ℕ). rest ++ all) last.is ∙ sym (append_assoc rest last.front (last.byte ∷ []));
        before = subst (λ (all : List ℕ). IsReply method (bytes ++ last.front) part.0 part.1 statuses (rest ++ all)) (all_of next last.front is) before;
      };
      unfinished = going.unfinished;
    }

-- bytes that no body has
pub body_bad : (method : Method) (most : ℕ) (bytes piece : List ℕ) (next : Next) (more : ℕ) (statuses rest : List ℕ)
    → (going : IsGoingOn method most bytes next more statuses rest) → IsBadBody going.reply.framing (going.reply.body ++ piece) → IsBad method most (bytes ++ piece)
body_bad method most bytes piece next more statuses rest going wrong =
    let reply = going.reply in
    ByBody reply.head (reply.body ++ piece) reply.framing (ap (λ (all : List ℕ). all ++ piece) reply.parts ∙ append_assoc reply.head reply.body piece)
    reply.is_head reply.framed wrong

-- a longer front of a head
front_blank : (part : List ℕ) (byte k : ℕ) → IsOpenHead part → k < length (part ++ byte ∷ []) → ends_blank (take k (part ++ byte ∷ [])) ≡ false
front_blank part byte k open_head within =
    ap ends_blank (take-append-le k part (byte ∷ []) (omega (arith, length-append part (byte ∷ [])))) ∙ open_head.ends_nowhere k (omega (arith, length-append part (byte ∷ [])))

-- a head that is whole
pub head_whole : (part : List ℕ) (byte : ℕ) → IsOpenHead part → (ends_blank (part ++ byte ∷ []) ≡ true) ⊎ (max_head_len ≤ length (part ++ byte ∷ [])) → IsHead (part ++ byte ∷ [])
head_whole part byte open_head ends = record {
  ends = elim ends [ inl blank ↦ inl blank | inr long ↦ inr (omega (arith, length-append part (byte ∷ []), open_head.within)) ];
  first = λ k within. front_blank part byte k open_head within;
  within = omega (arith, length-append part (byte ∷ []), open_head.within);
}

-- a head that goes on
pub head_open : (part : List ℕ) (byte : ℕ) → IsOpenHead part → ends_blank (part ++ byte ∷ []) ≡ false → length (part ++ byte ∷ []) < max_head_len → IsOpenHead (part ++ byte ∷ [])
head_open part byte open_head blank short = record {
  ends_nowhere = λ k within. elim (eq-or-lt_of_le within) [
    | inl same ↦ ap ends_blank (ap (λ (n : ℕ). take n (part ++ byte ∷ [])) same ∙ take-length (part ++ byte ∷ [])) ∙ blank
    | inr below ↦ front_blank part byte k open_head below
  ];
  within = short;
}

-- one of two tests is true, or neither
either : (a b : Bool) → (a || b) ≡ true → (a ≡ true) ⊎ (b ≡ true)
either true b holds = inl refl
either false b holds = inr holds

neither : (a b : Bool) → (a || b) ≡ false → (a ≡ false) × (b ≡ false)
neither true b fails = cc
neither false b fails = (refl, fails)

-- what the test of a head tells
pub head_ends : (part : List ℕ) (byte : ℕ) → (nat_le 8192 (length (part ++ byte ∷ [])) || ends_blank (part ++ byte ∷ [])) ≡ true → IsOpenHead part → IsHead (part ++ byte ∷ [])
head_ends part byte whole open_head =
    head_whole part byte open_head (elim (either (nat_le 8192 (length (part ++ byte ∷ []))) (ends_blank (part ++ byte ∷ [])) whole) [
      | inl long ↦ inr (leb-true 8192 (length (part ++ byte ∷ [])) long)
      | inr blank ↦ inl blank
    ])

pub head_goes : (part : List ℕ) (byte : ℕ) → (nat_le 8192 (length (part ++ byte ∷ [])) || ends_blank (part ++ byte ∷ [])) ≡ false
    → length (part ++ byte ∷ []) < max_head_len → IsOpenHead part → IsOpenHead (part ++ byte ∷ [])
head_goes part byte goes short open_head =
    head_open part byte open_head (neither (nat_le 8192 (length (part ++ byte ∷ []))) (ends_blank (part ++ byte ∷ [])) goes).1 short

-- a piece of one byte
pub one_byte : (piece : List ℕ) → 0 < length piece → length piece ≤ 1 → get_or piece 0 0 ∷ [] ≡ piece
one_byte [] some within = absurd (omega arith)
one_byte (byte ∷ []) some within = refl
one_byte (byte ∷ other ∷ rest) some within = absurd (omega arith)

-- what is wanted with a frame is wanted of the body, and of the frame where it is content
pub within_body : (content : Bool) (count wanted missing : ℕ) → count ≤ (if content then min wanted missing else wanted) → count ≤ wanted
within_body true count wanted missing within = omega (arith, within)
within_body false count wanted missing within = within

pub within_frame : (content : Bool) (count wanted missing : ℕ) → content ≡ true → count ≤ (if content then min wanted missing else wanted) → count ≤ missing
within_frame true count wanted missing is within = omega (arith, within)
within_frame false count wanted missing is within = cc
