use Rattle.std.proofs.Common.{◌≡◌, ◌++◌, drop, map}
use Rattle.record_log.specs.Log.{blocks}
use Rattle.record_log.proofs.block.blocks_of.Given as goal

abbrev pub invariant-loop-entry : goal.invariant-loop-entry
invariant-loop-entry l = l.text.items ++ blocks (map (λ entry. entry.items) (drop l.entry-index l.batch)) ≡ blocks (map (λ entry. entry.items) l.batch)
