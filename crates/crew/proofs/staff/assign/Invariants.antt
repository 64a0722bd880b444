use Rattle.std.proofs.Common.{◌≡◌, ◌≤◌, ◌+◌, ◌++◌, map, length, vec_capacity}
use Rattle.std.specs.Vec.Iter.{into_iter_items, into_iter_len}
use Rattle.crew.proofs.staff.assign.Given as goal

abbrev pub invariant-loop-commands : goal.invariant-loop-commands
invariant-loop-commands g l =
    (into_iter_items l.fn.seats ≡ map (λ run. run.seat) l.runs.items ++ into_iter_items l.seats)
    × (l.fn.lists.items ≡ map (λ run. run.commands) l.runs.items ++ l.commands-iterator.rest.items)
    × (length l.runs.items + into_iter_len l.commands-iterator ≤ vec_capacity l.runs) × (into_iter_len l.commands-iterator ≤ into_iter_len l.seats)
