-- How one of two texts takes the place of the other.
use Rattle.std.specs.Prelude.{◌≡◌, ◌⊎◌, Option, Some}
use Rattle.journal_store.specs.declared.text.Text.{Text}

-- both are as they were, or the other text is in the place of the first, which is the other now
abbrev pub AreTurned : Text → Option Text → Text → Option Text → Type 0
AreTurned text other new new_other = ((new ≡ text) × (new_other ≡ other)) ⊎ ((other ≡ Some new) × (new_other ≡ Some text))
