use Rattle.std.proofs.Common.{◌≡◌, ◌≤◌, ◌+◌, ◌++◌, map, vec_len, vec_capacity}
use Rattle.std.specs.Vec.Iter.{into_iter_items, into_iter_len}
use Rattle.crew.specs.Staff.{seats_of}
use Rattle.crew.proofs.staff.Staff.give_back.Given as goal

abbrev pub invariant-loop-run : goal.invariant-loop-run
invariant-loop-run g l =
    (seats_of l.fn.self ≡ l.seats.items ++ (map (λ run. run.seat) (into_iter_items l.run-iterator) ++ into_iter_items l.fn.self.spare))
    × (map (λ run. run.commands.results) l.fn.self.runs.items ≡ l.results.items ++ map (λ run. run.commands.results) (into_iter_items l.run-iterator))
    × (vec_len l.seats + (into_iter_len l.run-iterator + into_iter_len l.fn.self.spare) ≤ vec_capacity l.seats) × (vec_len l.results + into_iter_len l.run-iterator ≤ vec_capacity l.results)

abbrev pub invariant-loop-seat : goal.invariant-loop-seat
invariant-loop-seat g l =
    (seats_of l.fn.self ≡ l.seats.items ++ into_iter_items l.seat-iterator) × (vec_len l.seats + into_iter_len l.seat-iterator ≤ vec_capacity l.seats)
