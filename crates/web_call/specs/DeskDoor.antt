-- A door over a desk that stands still: its catalogue and the desk's journal.
use Rattle.std.specs.Prelude.{ℕ, List}
use Rattle.desk_core.specs.declared.entry.Entry.{Entry}
use Rattle.web_call.specs.declared.desk_door.DeskDoor.{DeskDoor}

-- the names of its catalogue
abbrev pub door_names : {P K : Type 0} → DeskDoor P K → List (List ℕ)
door_names door = door.catalogue.now

-- the entries of its desk, the oldest first
abbrev pub door_journal : {P K : Type 0} → DeskDoor P K → List Entry
door_journal door = door.desk.now.journal
