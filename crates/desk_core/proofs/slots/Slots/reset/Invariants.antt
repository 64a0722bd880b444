use Rattle.desk_core.proofs.SlotLemmas.{HasReset}
use Rattle.desk_core.proofs.slots.Slots.reset.Given as goal

abbrev pub invariant-loop-index : goal.invariant-loop-index
invariant-loop-index g l = HasReset l.fn.self.places.items l.self.places.items l.index
