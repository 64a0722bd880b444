use Rattle.std.proofs.Common.{◌≡◌, ◌≤◌, ◌+◌, ◌++◌, map, length, vec_len, vec_capacity}
use Rattle.std.specs.Vec.Iter.{into_iter_items, into_iter_len}
use Rattle.crew.specs.Staff.{reports_of}
use Rattle.crew.proofs.staff.dismiss.Given as goal

abbrev pub invariant-loop-worker : goal.invariant-loop-worker
invariant-loop-worker g l =
    (l.fn.seats.items ++ map (λ worker. worker.seat) l.fn.workers.items ≡ l.seats.items ++ map (λ worker. worker.seat) (into_iter_items l.worker-iterator))
    × (vec_len l.seats + into_iter_len l.worker-iterator ≤ vec_capacity l.seats) × (vec_capacity l.fn.seats ≤ vec_capacity l.seats)
    × (vec_len l.fn.ends + length (reports_of l.fn.workers.items) ≤ vec_capacity l.fn.ends
    → (l.fn.ends.items ++ reports_of l.fn.workers.items ≡ l.ends.items ++ reports_of (into_iter_items l.worker-iterator))
    × (vec_len l.ends + length (reports_of (into_iter_items l.worker-iterator)) ≤ vec_capacity l.ends))
