use Rattle.std.proofs.Common.{◌≡◌, ◌≤◌, ◌+◌, ◌++◌, map, length, vec_capacity}
use Rattle.std.specs.Vec.Iter.{into_iter_items, into_iter_len}
use Rattle.live_run.proofs.seating.seated.Given as goal

abbrev pub invariant-loop-server : goal.invariant-loop-server
invariant-loop-server g l =
    (l.fn.seats.items ≡ map (λ seated. seated.seat) l.loops.items ++ into_iter_items l.rest)
    × (l.fn.servers.items ≡ map (λ seated. seated.server) l.loops.items ++ into_iter_items l.server-iterator)
    × (into_iter_len l.server-iterator ≡ into_iter_len l.rest) × (length l.loops.items + into_iter_len l.server-iterator ≤ vec_capacity l.loops)
