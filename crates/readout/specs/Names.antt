-- The names of a list's answer.
use Rattle.std.specs.Prelude.{ℕ, ◌==◌, List, [], ◌∷◌, Option, Some, None, if◌then◌else◌}
use Rattle.std.specs.List.{filter_map, slice_split}

-- the name of a word, from its first byte and the name of what is behind that
abbrev pub name_from : ℕ → Option (List ℕ) → Option (List ℕ)
name_from c (Some name) = Some (c ∷ name)
name_from c None = if c == 61 then Some [] else None

-- the name that a word begins with: all that stands before its last `=`, if it has one
abbrev pub name_of : List ℕ → Option (List ℕ)
name_of [] = None
name_of (c ∷ word) = name_from c (name_of word)

-- the names of an answer's words, which single spaces part
abbrev pub names_of : List ℕ → List (List ℕ)
names_of answer = filter_map name_of (slice_split (λ c. c == 32) answer)
