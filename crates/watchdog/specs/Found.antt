-- What a round finds of the journal before it reads the clock.
use Rattle.std.specs.Prelude.{ℕ, ◌≡◌, ◌<◌, Option, List, length, take, drop}
use Rattle.desk_core.specs.declared.entry.Entry.{Entry}
use Rattle.desk_core.specs.Past.{past}
use Rattle.hall.specs.Seats.{SeatState}
use Rattle.tail.specs.Tail.{forgotten}
use Rattle.watchdog.specs.declared.found.Found.{Found}
use Rattle.watchdog.specs.declared.found.Found.TheVariants.{Asleep, Next, Forgotten}

-- It is so of the journal that a seat has seen: the end of it; these entries, the next behind a place; or the end, where an entry behind the
-- place is forgotten
abbrev pub IsFound : Option ℕ → List Entry → SeatState → Found → Type 0
IsFound kept entries seat (Asleep end) = end ≡ length seat.seen
IsFound kept entries seat (Next place) = entries ≡ take (length entries) (drop place (past seat.seen))
IsFound kept entries seat (Forgotten place end) = (place < forgotten kept (length seat.seen)) × (end ≡ length seat.seen)
