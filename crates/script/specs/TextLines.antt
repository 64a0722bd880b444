-- The lines of a script's text, what is read of each, and the words of a line.
use Rattle.std.specs.Prelude.{ℕ, ◌≡◌, ◌+◌, ◌==◌, false, nat_eq, if◌then◌else◌, List, [], ◌∷◌, length, map, take, codes}
use Rattle.std.specs.Borrow.{Bor}
use Rattle.std.specs.List.{onto_first, slice_split, list_any, starts_with}
use Rattle.script.specs.declared.script.Mode.{Mode}
use Rattle.script.specs.declared.script.Mode.TheVariants.{Replay, Serve, Run}

-- the lines of a text, which is cut at each LF. An empty last piece is no line, so the last line may stand without LF
abbrev pub lines : List ℕ → List (List ℕ)
lines [] = []
lines (c ∷ rest) = if c == 10 then [] ∷ lines rest else onto_first c (lines rest)

-- a line without the CR at its end, if it has one
abbrev pub without_cr : List ℕ → List ℕ
without_cr [] = []
without_cr (c ∷ []) = if c == 13 then [] else c ∷ []
without_cr (c ∷ d ∷ rest) = c ∷ without_cr (d ∷ rest)

-- what is read of a line in a mode. In a script to run a line may end in CR LF, and one that begins with `#` is a comment
abbrev pub content : Mode → List ℕ → List ℕ
content Replay line = line
content Serve line = line
content Run line = if starts_with nat_eq line (codes "#") then [] else without_cr line

-- the lines that have a byte, each with its number. Lines without a byte are counted too
abbrev pub numbered : ℕ → List (List ℕ) → List (ℕ × List ℕ)
numbered number [] = []
numbered number ([] ∷ others) = numbered (number + 1) others
numbered number ((c ∷ line) ∷ others) = (number, c ∷ line) ∷ numbered (number + 1) others

-- what is left of a text: its lines of which a byte is read, each with its number, and the number after its last line
pub record Left : Type 0 where
  pub lines : List (ℕ × List ℕ)
  pub end : ℕ

-- what is left in a mode where the text's first line has this number
abbrev pub left_from : Mode → ℕ → List ℕ → Left
left_from mode number text = record { lines = numbered number (map (content mode) (lines text)); end = number + length (lines text) }

-- the same with one line more in front
abbrev pub with_line : ℕ × List ℕ → Left → Left
with_line line left = record { lines = line ∷ left.lines; end = left.end }

-- the numbers of the first lines, so many
abbrev pub first_numbers : ℕ → List (ℕ × List ℕ) → List ℕ
first_numbers count lines = map (λ line. line.0) (take count lines)

-- the words of a line, which are parted by one space. A line with an empty word has none
pub record AreWords (line : List ℕ) (words : List (List ℕ)) : Type 0 where
  pub parted : words ≡ slice_split (λ c. c == 32) line
  pub whole : list_any (λ word. length word == 0) words ≡ false

-- words, apart from where they lie in memory
abbrev pub texts : List (Bor (List ℕ)) → List (List ℕ)
texts words = map (λ word. word.now) words
