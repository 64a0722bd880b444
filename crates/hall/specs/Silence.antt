-- What a seat has seen of a change that it made.
use Rattle.std.specs.Prelude.{List, drop, Result, Ok, Err}
use Rattle.desk_core.specs.declared.entry.Entry.{Entry}
use Rattle.desk_core.specs.declared.refusal.Refusal.{Refusal}
use Rattle.desk_core.specs.declared.reply.Reply.{Reply}

-- the history before a change with this result, behind which a seat has seen this one
abbrev pub seen_before : Result Reply Refusal → List Entry → List Entry
seen_before (Ok reply) seen = drop 1 seen
seen_before (Err refusal) seen = seen
