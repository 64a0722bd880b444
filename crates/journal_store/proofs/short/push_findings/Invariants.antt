use Rattle.std.proofs.Common.{◌≡◌, ◌++◌, replicate}
use Rattle.desk_core.specs.Past.{past}
use Rattle.desk_core.specs.declared.call.Call.TheVariants.{Observe}
use Rattle.journal_store.specs.Short.{done}
use Rattle.journal_store.proofs.short.push_findings.Given as goal

abbrev pub invariant-loop : goal.invariant-loop
invariant-loop l = past l.entries.items ≡ replicate l.counter (done (Observe l.slot l.finding)) ++ past l.fn.entries.items
