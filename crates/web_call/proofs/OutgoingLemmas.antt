-- Texts that go out one behind the other, and the frames that are whole in what was sent.
use Rattle.std.proofs.Common.{◌≡◌, refl, sym, ap, ◌∙◌, ℕ, ◌+◌, ◌-◌, ◌≤◌, List, [], ◌++◌, length, take, drop, append_assoc, append-nil, take-append-drop, length-append, arith}
use Rattle.std.proofs.lemmas.List.{length-take-le}
use Rattle.web_call.specs.declared.outgoing.Outgoing.{Outgoing}
use Rattle.web_call.specs.Outgoing.{GoesOut, frames_out, left_of}
use Rattle.web_call.specs.Pieces.{Piece, text_of, frames_within, counted}
use Rattle.web_call.specs.Text.{IsTextOf, frames_by, text_bytes}
use Rattle.web_call.proofs.PieceLemmas.{frames_of, frames_past, frames_within-nil, text_of-append}

-- a first text
pub goes_begun : (outgoing : Outgoing) (part : List Piece) → outgoing.gone ≡ 0 → outgoing.earlier ≡ 0 → IsTextOf outgoing.text part
    → GoesOut outgoing [] part []
goes_begun outgoing part none none_earlier is = record {
  front = [];
  is_text = is;
  was_sent = refl;
  is_left = sym is.bytes ∙ sym (ap (λ n. drop n (text_bytes outgoing.text)) none);
  gone_is = none;
  earlier_are = none_earlier ∙ omega (arith, frames_within-nil 0);
}

-- all frames of pieces are whole in their text
pub frames_whole : (pieces : List Piece) → frames_within pieces (length (text_of pieces)) ≡ frames_of pieces
frames_whole pieces =
    let end : length (text_of pieces) + 0 ≡ length (text_of pieces) = omega arith in
    ap (frames_within pieces) (sym end) ∙ ap (λ all. frames_within all (length (text_of pieces) + 0)) (sym (append-nil pieces))
    ∙ frames_past pieces [] 0 ∙ omega (arith, frames_within-nil 0)

-- the frames that are whole in what was sent
pub frames_sent : {outgoing : Outgoing} {done part : List Piece} {sent : List ℕ} → GoesOut outgoing done part sent
    → frames_out outgoing ≡ counted (frames_within (done ++ part) (length sent))
frames_sent {outgoing} {done} {part} {sent} goes =
    let within : length goes.front ≤ length (text_of part) = omega (arith, ap length goes.is_left, length-append goes.front (left_of outgoing)) in
    let now : frames_by outgoing.text outgoing.gone ≡ frames_within part (length goes.front) =
    goes.is_text.frames outgoing.gone (omega (arith, goes.gone_is, within)) ∙ ap (frames_within part) goes.gone_is in
    let long : length sent ≡ length (text_of done) + length goes.front = ap length goes.was_sent ∙ length-append (text_of done) goes.front in
    let all : frames_within (done ++ part) (length sent) ≡ frames_of done + frames_within part (length goes.front) =
    ap (frames_within (done ++ part)) long ∙ frames_past done part (length goes.front) in
    omega (arith, goes.earlier_are, frames_whole done, now, all)

-- all of a text was sent
pub all_sent : {outgoing : Outgoing} {done part : List Piece} {sent : List ℕ} → left_of outgoing ≡ [] → GoesOut outgoing done part sent
    → sent ≡ text_of (done ++ part)
all_sent {outgoing} {done} {part} {sent} none goes =
    goes.was_sent
    ∙ ap (λ bytes. text_of done ++ bytes) (sym (append-nil goes.front) ∙ ap (λ rest. goes.front ++ rest) (sym none) ∙ sym goes.is_left)
    ∙ sym (text_of-append done part)

-- the next text
pub goes_on : (old new : Outgoing) (done part next : List Piece) (sent : List ℕ) → left_of old ≡ [] → new.gone ≡ 0 → new.earlier ≡ frames_out old
    → IsTextOf new.text next → GoesOut old done part sent → GoesOut new (done ++ part) next sent
goes_on old new done part next sent none begins earlier is goes = record {
  front = [];
  is_text = is;
  was_sent = all_sent none goes ∙ sym (append-nil _);
  is_left = sym is.bytes ∙ sym (ap (λ n. drop n (text_bytes new.text)) begins);
  gone_is = begins;
  earlier_are = earlier ∙ frames_sent goes ∙ ap (λ bytes. counted (frames_within (done ++ part) (length bytes))) (all_sent none goes);
}

-- more of a text was sent
pub goes_further : (old new : Outgoing) (done part : List Piece) (sent : List ℕ) (count : ℕ) → new.text ≡ old.text → new.earlier ≡ old.earlier
    → new.gone + (length (left_of old) - count) ≡ length (text_bytes old.text) → count ≤ length (left_of old) → left_of new ≡ drop count (left_of old)
    → GoesOut old done part sent → GoesOut new done part (sent ++ take count (left_of old))
goes_further old new done part sent count same earlier gone fits left goes = record {
  front = goes.front ++ take count (left_of old);
  is_text = rw same goes.is_text;
  was_sent = ap (λ bytes. bytes ++ take count (left_of old)) goes.was_sent ∙ append_assoc (text_of done) goes.front (take count (left_of old));
  is_left = goes.is_left ∙ ap (λ bytes. goes.front ++ bytes) (sym (take-append-drop count (left_of old)))
      ∙ sym (append_assoc goes.front (take count (left_of old)) (drop count (left_of old)))
      ∙ ap (λ bytes. (goes.front ++ take count (left_of old)) ++ bytes) (sym left);
  gone_is = omega (
    arith,
    gone,
    fits,
    ap length (goes.is_text.bytes ∙ goes.is_left),
    length-append goes.front (left_of old),
    length-append goes.front (take count (left_of old)),
    length-take-le count (left_of old) fits,
  );
  earlier_are = earlier ∙ goes.earlier_are;
}
