-- How a message shows a text of a script: in quotes, and on one line.
use Rattle.std.specs.Prelude.{ℕ, zero, suc, false, if◌then◌else◌, List, [], ◌∷◌, ◌++◌, codes, chars, encode_utf8}
use Rattle.std.specs.Char.{is_control}
use Rattle.std.specs.Fmt.{digits}

-- a character; a control character by its number in hexadecimal digits
abbrev pub shown_char : ℕ → List ℕ
shown_char c = if is_control c then codes "\\u{" ++ digits 16 false c ++ codes "}" else encode_utf8 c

-- so many characters, and two dots for those behind them, if there are any
abbrev pub shown : ℕ → List ℕ → List ℕ
shown room [] = []
shown zero (c ∷ others) = codes ".."
shown (suc room) (c ∷ others) = shown_char c ++ shown room others

-- a text in quotes, of which 200 characters at most are shown
abbrev pub quoted : List ℕ → List ℕ
quoted text = codes "\"" ++ shown 200 (chars text) ++ codes "\""
