-- A text that is sent, in pieces. Some of them are frames, which are counted as they go out whole.
use Rattle.std.specs.Prelude.{◌≡◌, ℕ, ◌+◌, ◌-◌, ◌^◌, nat_le, min, Bool, true, false, if◌then◌else◌, Option, List, [], ◌∷◌, ◌++◌, length, flat_map}
use Rattle.std.specs.Io.KnownBytes.{Appends}

-- a part of a text, which is a frame or stands around frames
pub record Piece : Type 0 where
  pub bytes : List ℕ
  pub is_frame : Bool

-- a piece that is no frame
abbrev pub plain : List ℕ → Piece
plain bytes = record { bytes = bytes; is_frame = false }

-- a piece that is a frame
abbrev pub framed : List ℕ → Piece
framed bytes = record { bytes = bytes; is_frame = true }

-- the text of the pieces
abbrev pub text_of : List Piece → List ℕ
text_of pieces = flat_map (λ piece. piece.bytes) pieces

-- a frame counts as one
abbrev pub count_of : Piece → ℕ
count_of piece = if piece.is_frame then 1 else 0

-- how many frames have their last byte among the first n bytes of the text
unfoldable pub frames_within : List Piece → ℕ → ℕ
frames_within [] n = 0
frames_within (piece ∷ later) n =
    if nat_le (length piece.bytes) n then count_of piece + frames_within later (n - length piece.bytes) else 0

-- a count of 32 bits stays at its greatest number once it has reached it
abbrev pub counted : ℕ → ℕ
counted n = min n (2 ^ 32 - 1)

-- the text begins with these bytes
pub record IsFrontOf (front text : List ℕ) : Type 0 where
  pub rest : List ℕ
  pub is : text ≡ front ++ rest

-- some pieces were written whole, and of the next ones a front; so many frames are whole in both
pub record IsCut (done part : List Piece) (contents contents_after : Option (List ℕ)) (frames : ℕ) : Type 0 where
  pub front : List ℕ
  pub of_part : IsFrontOf front (text_of part)
  pub appended : Appends contents contents_after (text_of done ++ front)
  pub whole : frames ≡ counted (frames_within (done ++ part) (length (text_of done ++ front)))
