-- Texts of one or two frames: how many are whole among their first bytes.
use Rattle.std.proofs.Common.{◌≡◌, refl, sym, ap, ◌∙◌, ℕ, ◌+◌, ◌-◌, ◌≤◌, ◌<◌, Option, None, Some, is_none, List, [], ◌∷◌, ◌++◌, length, append-nil, inl, inr, false, codes, arith}
use Rattle.std.proofs.lemmas.Fmt.{decimal_digit}
use Rattle.std.proofs.lemmas.Bool.{cases_lt, le-leb, lt-leb}
use Rattle.std.specs.Fmt.{digits}
use Rattle.grpc_frame.specs.declared.code.Code.TheVariants.{Ok, NotFound, Unavailable}
use Rattle.grpc_frame.specs.Frame.{frame}
use Rattle.grpc_frame.specs.Trailers.{block, header_line}
use Rattle.health_wire.specs.declared.serving.Serving.{Serving}
use Rattle.web_call.specs.Pieces.{Piece, plain, framed, text_of, frames_within}
use Rattle.web_call.specs.declared.text.Text.{Text}
use Rattle.web_call.specs.Response.{check_body_text}
use Rattle.web_call.specs.Text.{IsTextOf, ends_by, text_bytes}
use Rattle.web_call.specs.ResponseTexts.{body_head, check_pieces, check_response, crlf, message_chunk, message_frame, watch_head_text, watch_end}
use Rattle.web_call.proofs.PieceLemmas.{frames_of, length_around, one_frame_whole, one_frame_cut}
use Rattle.web_call.proofs.ResponseLemmas.{two_all, two_first, two_none, two_length}

ends_past : (place n : ℕ) → place ≤ n → ends_by (Some place) n ≡ 1
ends_past place n fits = rw (le-leb place n fits) refl

ends_later : (place n : ℕ) → n < place → ends_by (Some place) n ≡ 0
ends_later place n short = rw (lt-leb place n short) refl

-- one frame, with no others before it and behind it
pub one_frame : (a b : List Piece) (bytes : List ℕ) (place n : ℕ) → frames_of a ≡ 0 → frames_of b ≡ 0
    → place ≡ length (text_of a) + length bytes → ends_by (Some place) n + ends_by None n ≡ frames_within (a ++ framed bytes ∷ b) n
one_frame a b bytes place n none none_later is =
    elim (cases_lt n place) as (λ _. ends_by (Some place) n + ends_by None n ≡ frames_within (a ++ framed bytes ∷ b) n) [
      | inl short ↦ omega (arith, ends_later place n short, one_frame_cut a b bytes n none (omega (arith, short, is)))
      | inr fits ↦ omega (arith, ends_past place n fits, one_frame_whole a b bytes n none none_later (omega (arith, fits, is)))
    ]

-- two frames behind a head, and nothing behind them
pub two_frames : (head bytes last : List ℕ) (first second n : ℕ) → first ≡ length head + length bytes → second ≡ length head + length bytes + length last
    → 0 < length last → n ≤ length (text_of (plain head ∷ framed bytes ∷ framed last ∷ []))
    → ends_by (Some first) n + ends_by (Some second) n ≡ frames_within (plain head ∷ framed bytes ∷ framed last ∷ []) n
two_frames head bytes last first second n is also some within =
    let long = two_length head bytes last in
    elim (cases_lt n first) as (λ _. ends_by (Some first) n + ends_by (Some second) n ≡ frames_within (plain head ∷ framed bytes ∷ framed last ∷ []) n) [
      | inl short ↦ omega (
        arith,
        ends_later first n short,
        ends_later second n (omega (arith, short, is, also)),
        two_none head bytes last n (second - n) (omega (arith, long, also, short, is)) (omega (arith, short, is, also)),
      )
      | inr fits ↦ elim (cases_lt n second) as (λ _. ends_by (Some first) n + ends_by (Some second) n ≡ frames_within (plain head ∷ framed bytes ∷ framed last ∷ []) n) [
        | inl short ↦ omega (
          arith,
          ends_past first n fits,
          ends_later second n short,
          two_first head bytes last n (second - n) (omega (arith, long, also, short)) (omega (arith, short)) (omega (arith, fits, is, also)),
        )
        | inr all ↦ omega (
          arith,
          ends_past first n fits,
          ends_past second n all,
          two_all head bytes last n (omega (arith, long, also, all, within)),
        )
      ]
    ]

-- a text of one frame, with no others before it and behind it
pub text_of_one : (a b : List Piece) (bytes : List ℕ) (text : Text) (place : ℕ) → frames_of a ≡ 0 → frames_of b ≡ 0
    → text_bytes text ≡ text_of (a ++ framed bytes ∷ b) → text.first_end ≡ Some place → text.second_end ≡ None
    → place + length (text_of b) ≡ length (text_bytes text) → IsTextOf text (a ++ framed bytes ∷ b)
text_of_one a b bytes text place none none_later is first second ends = record {
  bytes = is;
  frames = λ n _. ap (λ end. ends_by end n + ends_by text.second_end n) first ∙ ap (λ end. ends_by (Some place) n + ends_by end n) second
      ∙ one_frame a b bytes place n none none_later (omega (arith, ends, ap length is, length_around a b bytes));
}

-- a text of a head and two frames
pub text_of_two : (head bytes last : List ℕ) (text : Text) (place end : ℕ) → 0 < length last
    → text_bytes text ≡ text_of (plain head ∷ framed bytes ∷ framed last ∷ []) → text.first_end ≡ Some place → text.second_end ≡ Some end
    → place ≡ length head + length bytes → end ≡ length (text_bytes text) → IsTextOf text (plain head ∷ framed bytes ∷ framed last ∷ [])
text_of_two head bytes last text place end some is first second at all = record {
  bytes = is;
  frames = λ n within. ap (λ x. ends_by x n + ends_by text.second_end n) first ∙ ap (λ x. ends_by (Some place) n + ends_by x n) second
      ∙ two_frames head bytes last place end n at (omega (arith, all, ap length is, two_length head bytes last)) some within;
}

-- a frame has a byte at least
frame_some : (flag : ℕ) (content : List ℕ) → 0 < length (frame flag content)
frame_some flag content = omega arith

-- the trailers of OK are as long as that, whatever stands before them
ok_trailers_length : length (frame 128 (block Ok [])) ≡ 20
ok_trailers_length = ap (λ digits. length (frame 128 (header_line (codes "grpc-status:") digits ++ []))) (decimal_digit 0 (omega arith))

pub check_response_length : (status : Option Serving) → is_none status ≡ false → 20 ≤ length (check_response status)
check_response_length (Some status) some =
    let message = message_frame status in
    let trailers = frame 128 (block Ok []) in
    omega (arith, two_length (body_head (length (message ++ (trailers ++ [])))) message trailers, ok_trailers_length)
check_response_length None some = absurd (grind (arith, some))

-- a head and the body of a Check's response are the response
pub check_response_of : (status : Option Serving) (body : List ℕ) → body ≡ check_body_text status → body_head (length body) ++ body ≡ check_response status
check_response_of (Some status) body is =
    ap (λ bytes. body_head (length bytes) ++ bytes) (is ∙ ap (λ rest. message_frame status ++ rest) (sym (append-nil (frame 128 (block Ok [])))))
check_response_of None body is =
    ap (λ bytes. body_head (length bytes) ++ bytes) (is ∙ sym (append-nil (frame 128 (block NotFound (codes "unknown service")))))

-- the response to a Check with a status
pub text_of_check : (status : Option Serving) (text : Text) (place end : ℕ) → is_none status ≡ false → text_bytes text ≡ check_response status
    → text.first_end ≡ Some place → text.second_end ≡ Some end → place + 20 ≡ end → end ≡ length (text_bytes text) → IsTextOf text (check_pieces status)
text_of_check (Some status) text place end some whole first second at all =
    let message = message_frame status in
    let trailers = frame 128 (block Ok []) in
    let head = body_head (length (message ++ (trailers ++ []))) in
    text_of_two head message trailers text place end (frame_some 128 (block Ok [])) whole first second
    (omega (arith, at, all, ap length whole, two_length head message trailers, ok_trailers_length)) all
text_of_check None text place end some whole first second at all = absurd (grind (arith, some))

-- the line of a chunk's size
abbrev size_line : List ℕ → Piece
size_line bytes = plain (digits 16 false (length bytes) ++ crlf)

-- a message of a Watch, behind its head or alone, whose chunk ends two bytes behind the frame
pub text_of_first : (status : Serving) (text : Text) (place : ℕ) → text_bytes text ≡ text_of (plain watch_head_text ∷ message_chunk status)
    → text.first_end ≡ Some place → text.second_end ≡ None → place + 2 ≡ length (text_bytes text) → IsTextOf text (plain watch_head_text ∷ message_chunk status)
text_of_first status text place is first second ends =
    text_of_one (plain watch_head_text ∷ size_line (message_frame status) ∷ []) (plain crlf ∷ []) (message_frame status) text place (omega arith) (omega arith) is first second ends

pub text_of_message : (status : Serving) (text : Text) (place : ℕ) → text_bytes text ≡ text_of (message_chunk status)
    → text.first_end ≡ Some place → text.second_end ≡ None → place + 2 ≡ length (text_bytes text) → IsTextOf text (message_chunk status)
text_of_message status text place is first second ends =
    text_of_one (size_line (message_frame status) ∷ []) (plain crlf ∷ []) (message_frame status) text place (omega arith) (omega arith) is first second ends

-- the end of a Watch, whose frame the end of its chunk and the last chunk stand behind
pub text_of_end : (text : Text) (place : ℕ) → text_bytes text ≡ text_of watch_end
    → text.first_end ≡ Some place → text.second_end ≡ None → place + 7 ≡ length (text_bytes text) → IsTextOf text watch_end
text_of_end text place is first second ends =
    let trailers = frame 128 (block Unavailable (codes "watch ended")) in
    text_of_one (size_line trailers ∷ []) (plain crlf ∷ plain (codes "0\r\n\r\n") ∷ []) trailers text place (omega arith) (omega arith) is first second ends
