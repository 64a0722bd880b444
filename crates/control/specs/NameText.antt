-- Names, as lines have them.
use Rattle.std.specs.Prelude.{ℕ, List, [], ◌∷◌, codes, unwrap_or}
use Rattle.desk_core.specs.Catalogue.{name_at}

-- a name: the empty one is `-`
abbrev pub word_of : List ℕ → List ℕ
word_of [] = codes "-"
word_of (c ∷ name) = c ∷ name

-- the word for the name of a slot
abbrev pub slot_word : List (List ℕ) → ℕ → List ℕ
slot_word names slot = word_of (unwrap_or (name_at names slot) [])
