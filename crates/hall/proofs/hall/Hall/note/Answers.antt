use Rattle.std.proofs.Common.{ap, sym, arith, ◌∙◌}
use Rattle.hall.specs.Seats.{HallState, SeatState}
use Rattle.hall.proofs.Seats.{tells}
use Rattle.hall.proofs.hall.Hall.note.Goals as goal

pub split_seat-requires : goal.split_seat-requires
split_seat-requires g c = (
  ap (λ (s : SeatState). s.table) c.seat.view_is ∙ (c.requires.table ∙ sym (ap (λ (h : HallState). h.table) c.self.view_is)),
  omega (arith, c.self.invariant.0),
  tells c.self.inside.table.shared.key c.seat.inside.place.id c.seat.inside.place.me.0,
)
