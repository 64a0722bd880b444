use Rattle.std.proofs.Common.{◌≡◌, ◌≤◌, ◌+◌, ◌++◌, map, vec_len, vec_capacity}
use Rattle.std.specs.Vec.Iter.{into_iter_items, into_iter_len}
use Rattle.live_run.specs.Seating.{seats_of, servers_of}
use Rattle.live_run.proofs.seating.Seating.give_back.Given as goal

abbrev pub invariant-loop-server : goal.invariant-loop-server
invariant-loop-server g l =
    (seats_of l.fn.self ≡ l.seats.items ++ (map (λ seated. seated.seat) (into_iter_items l.server-iterator) ++ (l.fn.self.control.items ++ l.fn.self.report.items)))
    × (vec_len l.seats + (into_iter_len l.server-iterator + (vec_len l.fn.self.control + vec_len l.fn.self.report)) ≤ vec_capacity l.seats)
    × (servers_of l.fn.self ≡ l.servers.items ++ map (λ seated. seated.server) (into_iter_items l.server-iterator)) × (vec_len l.servers + into_iter_len l.server-iterator ≤ vec_capacity l.servers)
