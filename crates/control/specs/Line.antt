-- Lines of bytes, each of which ends in a line feed.
use Rattle.std.specs.Prelude.{ℕ, ◌≡◌, ◌≢◌, ◌+◌, ◌≤◌, ◌⊎◌, Option, List, [], ◌∷◌, ◌++◌, length, All}
use Rattle.std.specs.Io.KnownBytes.{Consumes, IsAtEnd}
use Rattle.control.specs.declared.line.TheConstants.{MAX_LINE_LEN}
use Rattle.control.specs.declared.line_end.LineEnd.{LineEnd}
use Rattle.control.specs.declared.line_end.LineEnd.TheVariants.{LineFeed, Input, TooLong}

-- the bytes have no line feed
abbrev pub IsPartOfLine : List ℕ → Type 0
IsPartOfLine bytes = All (λ byte. byte ≢ 10) bytes

-- the bytes, and a line feed
abbrev pub ended : List ℕ → List ℕ
ended bytes = bytes ++ 10 ∷ []

-- from a reader these bytes of a line were read, no more than are wanted, and what stood behind them
abbrev pub IsReadTo : Option (List ℕ) → Option (List ℕ) → List ℕ → LineEnd → Type 0
IsReadTo before after line LineFeed = Consumes before after (ended line) × (length line ≤ MAX_LINE_LEN)
IsReadTo before after line Input = Consumes before after line × IsAtEnd after × (length line ≤ MAX_LINE_LEN)
IsReadTo before after line TooLong = Consumes before after line × (length line ≡ MAX_LINE_LEN + 1)

-- a server does not answer the line: it has no byte, or a carriage return alone
abbrev pub IsSilent : List ℕ → Type 0
IsSilent line = (line ≡ []) ⊎ (line ≡ 13 ∷ [])
