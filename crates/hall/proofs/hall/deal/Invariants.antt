use Rattle.std.proofs.Common.{◌≡◌, []}
use Rattle.hall.specs.Views.{dealer}
use Rattle.hall.specs.Seats.{new_seats}
use Rattle.hall.proofs.hall.deal.Given as goal

abbrev pub invariant-loop-number : goal.invariant-loop-number
invariant-loop-number g l =
    (l.first.table_id ≡ l.table.shared.table_id)
    × (l.first.me ≡ (dealer l.number l.fn.most, []))
    × (l.dealt.items ≡ new_seats l.table.shared.table_id l.fn.most l.number)
