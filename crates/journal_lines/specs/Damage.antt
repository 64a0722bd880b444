-- Where a fault of a file is told.
use Rattle.std.specs.Prelude.{◌≡◌, ◌⊎◌, ℕ, ◌<◌, List, length, take}
use Rattle.record_log.specs.Log.{IsDamagedAt, StandsFor, blocks}

-- where one of the records of the file begins, or where its blocks end and neither a block nor a gate stands
abbrev pub IsFaultAt : List ℕ → ℕ → Type 0
IsFaultAt file at = IsDamagedAt file at ⊎ ((records : List (List ℕ)) × (n : ℕ) × StandsFor file records × (n < length records) × (at ≡ length (blocks (take n records))))
