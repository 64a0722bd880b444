-- How a hall is set up again by the entries of an earlier run: by their changes, one after the other, each with its reply.
use Rattle.std.specs.Prelude.{Option, Some, List, map, Result, Ok}
use Rattle.desk_core.specs.declared.call.Call.{Call}
use Rattle.desk_core.specs.declared.entry.Entry.{Entry}
use Rattle.desk_core.specs.declared.refusal.Refusal.{Refusal}
use Rattle.desk_core.specs.declared.reply.Reply.{Reply}

-- the changes of these entries
abbrev pub changes_of : List Entry → List (Option Call)
changes_of entries = map (λ entry. Some entry.call) entries

-- their replies
abbrev pub replies_of : List Entry → List (Result Reply Refusal)
replies_of entries = map (λ entry. Ok entry.reply) entries
