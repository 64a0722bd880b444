-- Header lines: a name, a colon, a value, and then CR LF (RFC 9112, section 5).
use Rattle.std.specs.Prelude.{ℕ, ◌≢◌, ◌==◌, ◌&&◌, ◌||◌, Bool, if◌then◌else◌, Option, List, [], ◌∷◌, ◌++◌, codes, reverse, find}
use Rattle.std.specs.List.{list_any, before_first, after_first, onto_first}
use Rattle.std.specs.Option.{option_map}
use Rattle.std.specs.Str.{str_eq_ignore_ascii_case}

-- the lines of a block, which is cut at each CR LF. An empty last piece is no line, so the last line may stand without CR LF
abbrev pub lines : List ℕ → List (List ℕ)
lines [] = []
lines (c ∷ []) = (c ∷ []) ∷ []
lines (c ∷ d ∷ rest) = if c == 13 && d == 10 then [] ∷ lines rest else onto_first c (lines (d ∷ rest))

-- no CR LF stands in the line
abbrev pub HasNoEnd : List ℕ → Type 0
HasNoEnd line = (front behind : List ℕ) → line ≢ front ++ codes "\r\n" ++ behind

-- the block is these lines, by rules
pub data AreLines : List ℕ → List (List ℕ) → Type 0 where
  -- no bytes, no line
  NoLine : AreLines [] []
  -- the last line may stand without CR LF, where it is not empty
  LastLine : (line : List ℕ) → line ≢ [] → HasNoEnd line → AreLines line (line ∷ [])
  -- a line that ends at CR LF, and the lines behind it
  NextLine : (line rest : List ℕ) (others : List (List ℕ)) → HasNoEnd line → AreLines rest others
      → AreLines (line ++ codes "\r\n" ++ rest) (line ∷ others)

-- the byte is a colon
abbrev pub is_colon : ℕ → Bool
is_colon c = c == 58

-- the byte is a space or a tab
abbrev pub is_blank : ℕ → Bool
is_blank c = c == 32 || c == 9

-- the line has a colon
abbrev pub has_colon : List ℕ → Bool
has_colon line = list_any is_colon line

-- the bytes without the spaces and tabs at their start
abbrev pub trim_start : List ℕ → List ℕ
trim_start [] = []
trim_start (c ∷ rest) = if is_blank c then trim_start rest else c ∷ rest

-- the bytes without the spaces and tabs at their end
abbrev pub trim_end : List ℕ → List ℕ
trim_end bytes = reverse (trim_start (reverse bytes))

-- the bytes without the spaces and tabs at both ends
abbrev pub trim : List ℕ → List ℕ
trim bytes = trim_end (trim_start bytes)

-- the line's name, before its first colon, is this one, but for the case of ASCII letters
abbrev pub is_named : List ℕ → List ℕ → Bool
is_named name line = str_eq_ignore_ascii_case (before_first is_colon line) name

-- the line's value: what stands behind its first colon, without the spaces and tabs at both ends
abbrev pub value : List ℕ → List ℕ
value line = trim (after_first is_colon line)

-- the value of the first line with this name
abbrev pub value_of : List ℕ → List (List ℕ) → Option (List ℕ)
value_of name all = option_map value (find (is_named name) all)
