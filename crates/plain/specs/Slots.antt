-- Texts of all names of a catalogue in their order.
use Rattle.std.specs.Prelude.{ℕ, ◌+◌, List, [], ◌∷◌, ◌++◌}

-- the text of each name at its slot, of which the first is this one
abbrev pub texts_from : (ℕ → List ℕ → List ℕ) → ℕ → List (List ℕ) → List ℕ
texts_from text slot [] = []
texts_from text slot (name ∷ names) = text slot name ++ texts_from text (slot + 1) names
