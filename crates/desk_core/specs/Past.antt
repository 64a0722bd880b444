-- A history of the registry. Its past is the journal read backwards: a list of entries, the newest first.
use Rattle.std.specs.Prelude.{Option, None, List, [], ◌∷◌, reverse}
use Rattle.std.specs.Option.{option_or}
use Rattle.desk_core.specs.declared.call.Call.{Call}
use Rattle.desk_core.specs.declared.entry.Entry.{Entry}

abbrev pub past : List Entry → List Entry
past journal = reverse journal

-- what the newest call says, of those that say anything
abbrev pub last_said : {X : Type 0} → (Call → Option X) → List Entry → Option X
last_said says [] = None
last_said says (entry ∷ older) = option_or (says entry.call) (last_said says older)
