-- The bytes of a text that is sent, and where its frames end.
use Rattle.std.specs.Prelude.{ℕ, ◌≡◌, ◌+◌, ◌≤◌, nat_le, if◌then◌else◌, Option, None, Some, List, length}
use Rattle.web_call.specs.declared.text.Bytes.{Bytes}
use Rattle.web_call.specs.declared.text.Bytes.TheVariants.{Made, Fixed}
use Rattle.web_call.specs.declared.text.Text.{Text}
use Rattle.web_call.specs.Pieces.{Piece, text_of, frames_within}

abbrev pub bytes_of : Bytes → List ℕ
bytes_of (Made bytes) = bytes.items
bytes_of (Fixed bytes) = bytes.now

-- the bytes of a text
abbrev pub text_bytes : Text → List ℕ
text_bytes text = bytes_of text.bytes

-- a frame that ends there is whole among the first n bytes
abbrev pub ends_by : Option ℕ → ℕ → ℕ
ends_by None n = 0
ends_by (Some place) n = if nat_le place n then 1 else 0

-- how many of the text's frames are whole among its first n bytes
abbrev pub frames_by : Text → ℕ → ℕ
frames_by text n = ends_by text.first_end n + ends_by text.second_end n

-- the text is that of these pieces, and its frames are theirs
pub record IsTextOf (text : Text) (pieces : List Piece) : Type 0 where
  pub bytes : text_bytes text ≡ text_of pieces
  pub frames : (n : ℕ) → n ≤ length (text_of pieces) → frames_by text n ≡ frames_within pieces n
