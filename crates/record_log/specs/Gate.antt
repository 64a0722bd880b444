-- What a crash leaves of a text that is written over a gate, the gate last.
use Rattle.std.specs.Prelude.{◌≡◌, ◌⊎◌, ℕ, ◌+◌, List, ◌∷◌, ◌++◌, take, drop}

-- all up to the gate and the gate itself as they were, or the text behind a gate of any value
abbrev pub IsTornBehind : List ℕ → ℕ → List ℕ → List ℕ → Type 0
IsTornBehind old at text c = (take (at + 1) c ≡ take (at + 1) old) ⊎ ((gate : ℕ) × (more : List ℕ) × (c ≡ take at old ++ (gate ∷ (drop 1 text ++ more))))
