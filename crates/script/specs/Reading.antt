-- Reading by a relation, which says what a text or its words mean.
use Rattle.std.specs.Prelude.{Option, None, Some}

-- what is read is what the relation says, and nothing is read only where it says nothing
abbrev pub IsReading : {A B : Type 0} → (A → B → Type 0) → A → Option B → Type 0
IsReading {A} {B} Means text None = (value : B) → ¬ Means text value
IsReading {A} {B} Means text (Some value) = Means text value
