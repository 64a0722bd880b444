-- What workers keep of their seats.
use Rattle.std.specs.Prelude.{ℕ, ◌<◌, List, length}
use Rattle.std.specs.List.{slice_index_or}
use Rattle.crew.specs.declared.worker.Worker.{Worker}
use Rattle.hall.specs.Looking.{HasLooked}

-- all workers' seats have at most looked
abbrev pub HaveLooked : {P : Type 0} → List (Worker P) → List (Worker P) → Type 0
HaveLooked {P} old new = (place : ℕ) (other : Worker P) → place < length old
    → HasLooked (slice_index_or old place other).seat (slice_index_or new place other).seat
