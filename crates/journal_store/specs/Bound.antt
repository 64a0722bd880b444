-- How long a file may be.
use Rattle.std.specs.Prelude.{◌≡◌, ◌⊎◌, ℕ, ◌+◌, ◌*◌, max}

-- The blocks may be as long before the file is written anew as before the last change; or, where that wrote it anew, twice as long as it left
-- them, and so long in any case; or, where they were too long and that failed, a MiB longer
abbrev pub IsNextLimit : ℕ → ℕ → ℕ → ℕ → Type 0
IsNextLimit limit least written next = (next ≡ limit) ⊎ (next ≡ max (2 * written) least) ⊎ (next ≡ written + 1048576)
