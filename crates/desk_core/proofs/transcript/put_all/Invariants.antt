use Rattle.std.proofs.Common.{◌≡◌, ◌++◌, take}
use Rattle.std.specs.Vec.{vec_capacity}
use Rattle.desk_core.proofs.transcript.put_all.Given as goal

abbrev pub invariant-loop-change : goal.invariant-loop-change
invariant-loop-change l = (l.held.items ≡ l.fn.held.items ++ take l.change-index l.changes) × (vec_capacity l.held ≡ vec_capacity l.fn.held)
