-- Responses of a head and two frames: which frames are whole where so many bytes are left.
use Rattle.std.proofs.Common.{◌≡◌, ◌∙◌, ℕ, ◌+◌, ◌-◌, ◌≤◌, ◌<◌, List, [], ◌∷◌, length, length-append, arith}
use Rattle.web_call.specs.Pieces.{Piece, plain, framed, text_of, frames_within}
use Rattle.web_call.proofs.PieceLemmas.{length_around, one_frame_cut, frames_within-whole, frames_within-cut, frames_within-nil}

-- two frames behind a head
abbrev two : List ℕ → List ℕ → List ℕ → List Piece
two head bytes last = plain head ∷ framed bytes ∷ framed last ∷ []

pub two_length : (head bytes last : List ℕ) → length (text_of (two head bytes last)) ≡ length head + length bytes + length last
two_length head bytes last =
    omega (arith, length_around (plain head ∷ []) (framed last ∷ []) bytes, length-append head [], length-append last [])

-- behind the head stand two frames
past_head : (head bytes last : List ℕ) (n : ℕ) → length head ≤ n
    → frames_within (two head bytes last) n ≡ frames_within (framed bytes ∷ framed last ∷ []) (n - length head)
past_head head bytes last n fits =
    frames_within-whole (plain head) (framed bytes ∷ framed last ∷ []) n fits ∙ omega arith

pub two_all : (head bytes last : List ℕ) (n : ℕ) → n ≡ length (text_of (two head bytes last)) → frames_within (two head bytes last) n ≡ 2
two_all head bytes last n all =
    let long = two_length head bytes last in
    past_head head bytes last n (omega (arith, all, long))
    ∙ omega (
      arith,
      frames_within-whole (framed bytes) (framed last ∷ []) (n - length head) (omega (arith, all, long)),
      frames_within-whole (framed last) [] (n - length head - length bytes) (omega (arith, all, long)),
      frames_within-nil (n - length head - length bytes - length last),
    )

pub two_first : (head bytes last : List ℕ) (n left : ℕ) → n + left ≡ length (text_of (two head bytes last)) → 0 < left → left ≤ length last
    → frames_within (two head bytes last) n ≡ 1
two_first head bytes last n left all some few =
    let long = two_length head bytes last in
    past_head head bytes last n (omega (arith, all, long, few))
    ∙ omega (
      arith,
      frames_within-whole (framed bytes) (framed last ∷ []) (n - length head) (omega (arith, all, long, few)),
      frames_within-cut (framed last) [] (n - length head - length bytes) (omega (arith, all, long, some, few)),
    )

pub two_none : (head bytes last : List ℕ) (n left : ℕ) → n + left ≡ length (text_of (two head bytes last)) → length last < left
    → frames_within (two head bytes last) n ≡ 0
two_none head bytes last n left all many =
    one_frame_cut (plain head ∷ []) (framed last ∷ []) bytes n (omega arith)
    (omega (arith, all, two_length head bytes last, many, length-append head []))
