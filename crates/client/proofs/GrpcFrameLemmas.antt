-- Frames that end with the last byte that came.
use Rattle.std.proofs.Common.{ℕ, ◌≡◌, ◌+◌, ◌-◌, ◌^◌, ◌<◌, ◌≤◌, List, [], ◌∷◌, ◌++◌, length, take, drop, refl, sym, ap, ◌∙◌, subst, arith, append_assoc, length-append, inl, inr}
use Rattle.std.proofs.lemmas.List.{append-nil, nil_from_length}
use Rattle.std.proofs.lemmas.List.Elements.{All-nil, All-cons, All-append}
use Rattle.std.proofs.lemmas.Grind.{flat_map-append}
use Rattle.std.proofs.lemmas.Nat.{from_be_bytes-to_be_bytes_4}
use Rattle.std.specs.Int.{w32, to_be_bytes, from_be_bytes}
use Rattle.std.specs.List.{AllZip}
use Rattle.std.specs.Prelude.{Option, Some, None, IfSome, IfNone}
use Rattle.grpc_frame.specs.declared.frame.Frame.{Frame}
use Rattle.grpc_frame.specs.Frame.{frame}
use Rattle.grpc_frame.specs.Split.{max_content_len, BeginsWithFrame, BeginsWithNoFrame, bytes_of}
use Rattle.health_wire.specs.Response.{IsResponse}
use Rattle.client.specs.GrpcFrames.{HasStatus, Tells, missing_in}
use Rattle.client.proofs.BodyLemmas.{at_most, front_of}

-- the length that stands in a frame
pub len_is : (flag a b c d : ℕ) (part content rest : List ℕ) (mark : ℕ) → BeginsWithFrame (flag ∷ a ∷ b ∷ c ∷ d ∷ part) mark content rest
    → from_be_bytes w32 (a ∷ b ∷ c ∷ d ∷ []) ≡ length content
len_is flag a b c d part content rest mark front =
    let fits : length content < 2 ^ 32 = omega (arith, front.fits) in
    let four : a ∷ b ∷ c ∷ d ∷ [] ≡ to_be_bytes w32 (length content) = ap (λ (all : List ℕ). take 4 (drop 1 all)) front.parts in
    ap (from_be_bytes w32) four ∙ from_be_bytes-to_be_bytes_4 (length content) fits

-- a frame has five bytes before its content
pub length-frame : (flag : ℕ) (content : List ℕ) → length (frame flag content) ≡ 5 + length content
length-frame flag content = omega arith

-- five bytes at most that are a frame have nothing behind it
short_ends : (all content rest : List ℕ) (flag : ℕ) → length all ≤ 5 → BeginsWithFrame all flag content rest → rest ≡ []
short_ends all content rest flag within front =
    let lens : length all ≡ length (frame flag content ++ rest) = ap length front.parts in
    nil_from_length rest (omega (arith, length-append (frame flag content) rest, length-frame flag content))

-- where no frame was whole before, one that is whole with bytes that were missing ends with them
pub ends_there : (old piece content rest : List ℕ) (flag : ℕ) → length piece ≤ missing_in old → BeginsWithNoFrame old
    → BeginsWithFrame (old ++ piece) flag content rest → rest ≡ []
ends_there [] piece content rest flag within none front = short_ends piece content rest flag (omega arith) front
ends_there (mark ∷ []) piece content rest flag within none front = short_ends (mark ∷ piece) content rest flag (omega arith) front
ends_there (mark ∷ a ∷ []) piece content rest flag within none front = short_ends (mark ∷ a ∷ piece) content rest flag (omega arith) front
ends_there (mark ∷ a ∷ b ∷ []) piece content rest flag within none front = short_ends (mark ∷ a ∷ b ∷ piece) content rest flag (omega arith) front
ends_there (mark ∷ a ∷ b ∷ c ∷ []) piece content rest flag within none front =
    short_ends (mark ∷ a ∷ b ∷ c ∷ piece) content rest flag (omega arith) front
ends_there (mark ∷ a ∷ b ∷ c ∷ d ∷ part) piece content rest flag within none front =
    let old = mark ∷ a ∷ b ∷ c ∷ d ∷ part in
    let len : from_be_bytes w32 (a ∷ b ∷ c ∷ d ∷ []) ≡ length content = len_is mark a b c d (part ++ piece) content rest flag front in
    let lens : length (part ++ piece) + 5 ≡ length (frame flag content ++ rest) = omega (arith, ap length front.parts) in
    elim (at_most (length content) (length part)) [
      | inl whole ↦
          absurd (none flag content (take (length old - length (frame flag content)) rest) (record {
            fits = front.fits;
            parts = front_of old piece (frame flag content) rest front.parts (omega (arith, length-frame flag content));
          }))
      | inr over ↦ nil_from_length rest (omega (arith, length-append part piece, length-append (frame flag content) rest, length-frame flag content))
    ]

-- what `next_frame` says of a frame that was taken
pub taken_there : (taken : Option Frame) (old piece fed new : List ℕ) → fed ≡ old ++ piece → length piece ≤ missing_in old
    → IfSome taken (λ one. BeginsWithFrame fed one.flag one.body.items new)
    → IfSome taken (λ one. BeginsWithNoFrame old → (old ++ piece ≡ frame one.flag one.body.items) × (length one.body.items ≤ max_content_len) × (new ≡ []))
taken_there None old piece fed new is within found = tt
taken_there (Some one) old piece fed new is within found = λ none.
    let front = subst (λ (all : List ℕ). BeginsWithFrame all one.flag one.body.items new) is found in
    let ends = ends_there old piece one.body.items new one.flag within none front in
    (front.parts ∙ ap (λ (all : List ℕ). frame one.flag one.body.items ++ all) ends ∙ append-nil (frame one.flag one.body.items), front.fits, ends)

-- the same where none was
pub none_there : (taken : Option Frame) (old piece fed new : List ℕ) → fed ≡ old ++ piece → IfNone taken (BeginsWithNoFrame fed) → IfNone taken (new ≡ fed)
    → IfNone taken ((new ≡ old ++ piece) × BeginsWithNoFrame new)
none_there None old piece fed new is none stays = (stays ∙ is, subst BeginsWithNoFrame (sym stays) none)
none_there (Some one) old piece fed new is none stays = tt

-- more content behind what tells
pub Tells-more : (content statuses rest piece : List ℕ) → Tells content statuses rest → Tells (content ++ piece) statuses (rest ++ piece)
Tells-more content statuses rest piece tells = record {
  frames = tells.frames;
  are = record {
    fit = tells.are.fit;
    parts = ap (λ (all : List ℕ). all ++ piece) tells.are.parts ∙ append_assoc (bytes_of tells.frames) rest piece;
  };
  each = tells.each;
}

-- one item more in both lists
pub zip_push : (frames : List (ℕ × List ℕ)) (statuses : List ℕ) (one : ℕ × List ℕ) (status : ℕ) → AllZip HasStatus frames statuses → HasStatus one status
    → AllZip HasStatus (frames ++ one ∷ []) (statuses ++ status ∷ [])
zip_push [] [] one status each last = (last, tt)
zip_push [] (other ∷ others) one status each last = absurd each
zip_push (first ∷ frames) [] one status each last = absurd each
zip_push (first ∷ frames) (other ∷ others) one status each last = (each.0, zip_push frames others one status each.1 last)

-- the frame of one more message
pub Tells-push : (content statuses message : List ℕ) (status : ℕ) → length message ≤ max_content_len → IsResponse message status
    → Tells content statuses (frame 0 message) → Tells content (statuses ++ status ∷ []) []
Tells-push content statuses message status fits has tells =
    let one : ℕ × List ℕ = (0, message) in record {
      frames = tells.frames ++ one ∷ [];
      are = record {
        fit = All-append (λ (any : ℕ × List ℕ). length any.1 ≤ max_content_len) tells.frames (one ∷ []) tells.are.fit
            (All-cons (λ (any : ℕ × List ℕ). length any.1 ≤ max_content_len) one [] fits (All-nil (λ (any : ℕ × List ℕ). length any.1 ≤ max_content_len)));
        parts = tells.are.parts
            ∙ ap (λ (all : List ℕ). bytes_of tells.frames ++ all) (sym (append-nil (frame 0 message)))
            ∙ sym (flat_map-append (λ (any : ℕ × List ℕ). frame any.0 any.1) tells.frames (one ∷ []))
            ∙ sym (append-nil (bytes_of (tells.frames ++ one ∷ [])));
      };
      each = zip_push tells.frames statuses one status tells.each (refl, has);
    }
