-- Texts of ASCII, built from the back.
use Rattle.std.proofs.Common.{ℕ, ◌<◌, List, [], ◌∷◌}
use Rattle.std.specs.Str.{IsAscii}
use Rattle.std.proofs.lemmas.Str.Ascii.{IsAscii-cons, IsAscii-nil}

-- a text that is known to be of ASCII
pub record Text (bs : List ℕ) : Type 0 where
  pub is_ascii : IsAscii bs

-- no text
pub nothing : Text []
nothing = record { is_ascii = IsAscii-nil }

-- a byte of ASCII before a text
pub byte : (b : ℕ) (bs : List ℕ) → b < 128 → Text bs → Text (b ∷ bs)
byte b bs small rest = record { is_ascii = IsAscii-cons b bs small rest.is_ascii }

-- two digits before a text
pub digits : (a b : ℕ) (bs : List ℕ) → a < 128 → b < 128 → Text bs → Text (a ∷ b ∷ bs)
digits a b bs tens ones rest = byte a (b ∷ bs) tens (byte b bs ones rest)
