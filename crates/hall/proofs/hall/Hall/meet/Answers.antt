use Rattle.std.proofs.Common.{[], ap, sym, subst, arith, ◌∙◌}
use Rattle.hall.specs.Seats.{HallState, SeatState, NoteState}
use Rattle.hall.specs.Steps.{Seated}
use Rattle.atomic_table.specs.Table.{Joins}
use Rattle.hall.specs.declared.view.View.{View}
use Rattle.hall.specs.Gates.{IsGated}
use Rattle.hall.specs.Views.{after_note, note_view}
use Rattle.hall.proofs.Seats.{meets}
use Rattle.hall.proofs.hall.Hall.meet.Goals as goal

pub join_seat-requires : goal.join_seat-requires
join_seat-requires g c =
    let shared = c.self.inside.table.shared in
    let table = ap (λ (h : HallState). h.table) c.self.view_is in
    let bare = ap (λ (me : Seated). me.1) c.note.invariant in
    let told = ap (λ (me : Seated). me.0) c.note.invariant in (
      ap (λ (s : SeatState). s.table) c.seat.view_is ∙ (c.requires.seat.table ∙ sym table),
      ap (λ (n : NoteState). n.table) c.note.view_is ∙ (c.requires.note ∙ sym table),
      bare,
      omega (arith, c.self.invariant.0),
      subst (λ (w : View). Joins (IsGated shared.key) c.seat.inside.place.id c.seat.inside.place.me.0 c.note.inside.place.id w (after_note c.seat.inside.place.me.0 w) (note_view [])) (sym told)
          (meets shared.key c.seat.inside.place.id c.seat.inside.place.me.0 c.note.inside.place.id c.note.inside.place.me.0.told),
    )
