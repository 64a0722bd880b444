-- What a registry still knows of the entry at a place of its journal.
use Rattle.std.specs.Prelude.{ℕ, nat_lt, if◌then◌else◌, Option, List, [], ◌∷◌, length, drop}
use Rattle.desk_core.specs.declared.entry.Entry.{Entry}
use Rattle.desk_core.specs.declared.recall.Recall.{Recall}
use Rattle.desk_core.specs.declared.recall.Recall.TheVariants.{Kept, Forgotten, NoneYet}
use Rattle.tail.specs.Tail.{forgotten}

-- the first of these entries, if there is one
abbrev pub first_of : List Entry → Recall
first_of [] = NoneYet
first_of (entry ∷ newer) = Kept entry

-- the entry at a place of a journal, the oldest first, of which so many are kept
abbrev pub recalled : Option ℕ → List Entry → ℕ → Recall
recalled kept journal place = if nat_lt place (forgotten kept (length journal)) then Forgotten else first_of (drop place journal)
