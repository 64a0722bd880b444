use Rattle.std.proofs.Common.{◌≡◌, ◌≤◌, ◌+◌, ◌++◌, map, length, vec_len, vec_capacity}
use Rattle.std.specs.Vec.Iter.{into_iter_items, into_iter_len}
use Rattle.crew.proofs.staff.Staff.new.Given as goal

abbrev pub invariant-loop : goal.invariant-loop
invariant-loop g l =
    (l.fn.seats.items ≡ map (λ worker. worker.seat) l.hired.items ++ into_iter_items l.spare) × (length l.hired.items ≡ l.counter)
    × (l.workers ≤ vec_capacity l.hired) × (l.workers + vec_len l.fn.orders ≤ l.counter + into_iter_len l.spare)
