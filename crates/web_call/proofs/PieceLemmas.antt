-- Texts in pieces: fronts of them, and the frames that are whole in a front.
use Rattle.std.proofs.Common.{◌≡◌, refl, sym, ap, ◌∙◌, ℕ, ◌+◌, ◌-◌, ◌≤◌, ◌<◌, List, [], ◌∷◌, ◌++◌, length, append_assoc, length-append, inl, inr, arith}
use Rattle.std.proofs.lemmas.Bool.{cases_lt, le-leb, lt-leb}
use Rattle.web_call.specs.Pieces.{Piece, framed, text_of, count_of, frames_within}

-- the frames of all pieces
abbrev pub frames_of : List Piece → ℕ
frames_of [] = 0
frames_of (piece ∷ later) = count_of piece + frames_of later

-- the text of pieces behind others
pub text_of-append : (a b : List Piece) → text_of (a ++ b) ≡ text_of a ++ text_of b
text_of-append [] b = refl
text_of-append (piece ∷ a) b =
    ap (λ text. piece.bytes ++ text) (text_of-append a b) ∙ sym (append_assoc piece.bytes (text_of a) (text_of b))

pub frames_of-append : (a b : List Piece) → frames_of (a ++ b) ≡ frames_of a + frames_of b
frames_of-append [] b = omega arith
frames_of-append (piece ∷ a) b = omega (arith, frames_of-append a b)

-- a piece that is whole is counted, and one that is not ends the count
pub frames_within-whole : (piece : Piece) (later : List Piece) (n : ℕ) → length piece.bytes ≤ n
    → frames_within (piece ∷ later) n ≡ count_of piece + frames_within later (n - length piece.bytes)
unfolding frames_within
frames_within-whole piece later n fits = rw (le-leb (length piece.bytes) n fits) refl

pub frames_within-cut : (piece : Piece) (later : List Piece) (n : ℕ) → n < length piece.bytes → frames_within (piece ∷ later) n ≡ 0
unfolding frames_within
frames_within-cut piece later n short = rw (lt-leb (length piece.bytes) n short) refl

pub frames_within-nil : (n : ℕ) → frames_within [] n ≡ 0
unfolding frames_within
frames_within-nil n = refl

-- the frames of a front that goes past the first pieces
pub frames_past : (a b : List Piece) (n : ℕ) → frames_within (a ++ b) (length (text_of a) + n) ≡ frames_of a + frames_within b n
frames_past [] b n = let none : 0 + n ≡ n = omega arith in rw none (sym (omega arith))
frames_past (piece ∷ a) b n =
    let long : length (piece.bytes ++ text_of a) ≡ length piece.bytes + length (text_of a) = length-append piece.bytes (text_of a) in
    let rest : length (piece.bytes ++ text_of a) + n - length piece.bytes ≡ length (text_of a) + n = omega (arith, long) in
    frames_within-whole piece (a ++ b) (length (piece.bytes ++ text_of a) + n) (omega (arith, long))
    ∙ ap (λ m. count_of piece + frames_within (a ++ b) m) rest
    ∙ ap (λ m. count_of piece + m) (frames_past a b n)
    ∙ omega arith

-- pieces without a frame have none in a front
pub frames_none : (a : List Piece) (n : ℕ) → frames_of a ≡ 0 → frames_within a n ≡ 0
frames_none [] n none = frames_within-nil n
frames_none (piece ∷ a) n none =
    elim (cases_lt n (length piece.bytes)) as (λ _. frames_within (piece ∷ a) n ≡ 0) [
      | inl short ↦ frames_within-cut piece a n short
      | inr fits ↦ frames_within-whole piece a n fits ∙ omega (arith, none, frames_none a (n - length piece.bytes) (omega (arith, none)))
    ]

-- the length of a text with one frame in it
pub length_around : (a b : List Piece) (bytes : List ℕ)
    → length (text_of (a ++ framed bytes ∷ b)) ≡ length (text_of a) + length bytes + length (text_of b)
length_around a b bytes =
    omega (arith, ap length (text_of-append a (framed bytes ∷ b)), length-append (text_of a) (bytes ++ text_of b), length-append bytes (text_of b))

-- the one frame between others that are none is counted from its last byte on
pub one_frame_whole : (a b : List Piece) (bytes : List ℕ) (n : ℕ) → frames_of a ≡ 0 → frames_of b ≡ 0
    → length (text_of a) + length bytes ≤ n → frames_within (a ++ framed bytes ∷ b) n ≡ 1
one_frame_whole a b bytes n none none_later fits =
    let past : n ≡ length (text_of a) + (n - length (text_of a)) = omega (arith, fits) in
    ap (frames_within (a ++ framed bytes ∷ b)) past ∙ frames_past a (framed bytes ∷ b) (n - length (text_of a))
    ∙ omega (
      arith,
      none,
      frames_within-whole (framed bytes) b (n - length (text_of a)) (omega (arith, fits)),
      frames_none b (n - length (text_of a) - length bytes) none_later,
    )

pub one_frame_cut : (a b : List Piece) (bytes : List ℕ) (n : ℕ) → frames_of a ≡ 0
    → n < length (text_of a) + length bytes → frames_within (a ++ framed bytes ∷ b) n ≡ 0
one_frame_cut [] b bytes n none short = frames_within-cut (framed bytes) b n (omega (arith, short))
one_frame_cut (piece ∷ a) b bytes n none short =
    let long : length (piece.bytes ++ text_of a) ≡ length piece.bytes + length (text_of a) = length-append piece.bytes (text_of a) in
    elim (cases_lt n (length piece.bytes)) as (λ _. frames_within (piece ∷ a ++ framed bytes ∷ b) n ≡ 0) [
      | inl below ↦ frames_within-cut piece (a ++ framed bytes ∷ b) n below
      | inr fits ↦ frames_within-whole piece (a ++ framed bytes ∷ b) n fits
          ∙ omega (arith, none, one_frame_cut a b bytes (n - length piece.bytes) (omega (arith, none)) (omega (arith, long, short)))
    ]
