use Rattle.std.proofs.Common.{arith}
use Rattle.std.proofs.lemmas.Grind.{common_steps}
use Rattle.desk_core.proofs.transcript.Transcript.make_room.Goals as goal

pub overflow_add-len : goal.overflow_add-len
overflow_add-len g c = grind (arith, common_steps)

pub overflow_sub-gone : goal.overflow_sub-gone
overflow_sub-gone g c = grind (arith, common_steps)

pub overflow_sub-most : goal.overflow_sub-most
overflow_sub-most g c = grind (arith, common_steps)

pub invariant_of-self-then-capacity-held : goal.invariant_of-self-then-capacity-held
invariant_of-self-then-capacity-held g c = grind (arith, common_steps)

pub returns-then-capacity-held-clause-copy : goal.returns-then-capacity-held-clause-copy
returns-then-capacity-held-clause-copy g c = grind (arith, common_steps)

pub returns-then-capacity-held-clause-count : goal.returns-then-capacity-held-clause-count
returns-then-capacity-held-clause-count g c = grind (arith, common_steps)

pub invariant_of-self-2 : goal.invariant_of-self-2
invariant_of-self-2 g c = grind (arith, common_steps)

pub returns-clause-copy : goal.returns-clause-copy
returns-clause-copy g c = grind (arith, common_steps)

pub returns-clause-count : goal.returns-clause-count
returns-clause-count g c = grind (arith, common_steps)

pub returns-clause-room : goal.returns-clause-room
returns-clause-room g c = grind (arith, common_steps)
