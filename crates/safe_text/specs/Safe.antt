-- How a text is printed that somebody else chose.
use Rattle.std.specs.Prelude.{ℕ, Bool, false, ◌||◌, ◌==◌, if◌then◌else◌, List, [], ◌∷◌, ◌++◌, codes, chars, encode_utf8}
use Rattle.std.specs.Char.{is_control}
use Rattle.std.specs.Int.{is_in_range}
use Rattle.std.specs.Fmt.{digits}

-- a character that changes the direction of the text after it: Unicode's Bidi_Control
abbrev pub turns_text : ℕ → Bool
turns_text c = c == 0x61C || is_in_range 0x200E 0x200F c || is_in_range 0x202A 0x202E c || is_in_range 0x2066 0x2069 c

-- a character that a terminal does not just show
abbrev pub is_unsafe : ℕ → Bool
is_unsafe c = is_control c || turns_text c

-- a character; an unsafe one by its number in hexadecimal digits
abbrev pub safe_char : ℕ → List ℕ
safe_char c = if is_unsafe c then codes "\\u{" ++ digits 16 false c ++ codes "}" else encode_utf8 c

-- one character after the other
abbrev pub safe : List ℕ → List ℕ
safe [] = []
safe (c ∷ others) = safe_char c ++ safe others

-- a text
abbrev pub safe_text : List ℕ → List ℕ
safe_text text = safe (chars text)
