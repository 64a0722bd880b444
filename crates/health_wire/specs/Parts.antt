use Rattle.std.specs.Prelude.{◌≡◌, ℕ, List, ◌++◌}

-- the bytes are a front with this meaning, and then the rest
abbrev pub Begins : (List ℕ → Type 0) → List ℕ → List ℕ → Type 0
Begins P bytes rest = (front : List ℕ) × (bytes ≡ front ++ rest) × P front

-- the new bytes are the old ones, and then an end with this meaning
abbrev pub Appends : (List ℕ → Type 0) → List ℕ → List ℕ → Type 0
Appends P old new = (end : List ℕ) × (new ≡ old ++ end) × P end
