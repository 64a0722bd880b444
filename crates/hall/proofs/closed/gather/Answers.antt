use Rattle.std.proofs.Common.{◌≡◌, ◌<◌, ◌∷◌, [], ◌++◌, List, length, map, ap, sym, subst, arith, ◌∙◌, length-append}
use Rattle.atomic_table.specs.Table.{Joins}
use Rattle.hall.specs.declared.view.Held.{Held}
use Rattle.hall.specs.declared.view.View.{View}
use Rattle.hall.specs.Gates.{IsGated}
use Rattle.hall.specs.Seats.{SeatState, held_of}
use Rattle.hall.specs.Steps.{Seated, seen_in}
use Rattle.hall.specs.Views.{note_view, with_seats}
use Rattle.hall.proofs.Seats.{gathers}
use Rattle.hall.proofs.Gathered.{Came, came, grown}
use Rattle.std.proofs.lemmas.List.{append-nil, nil_from_length}
use Rattle.hall.proofs.closed.gather.Goals as goal

pub loop-seat-init : goal.loop-seat-init
loop-seat-init g c =
    let others = c.into_iter-seat-iterator.result.rest.items in
    let list : c.args.seats.items ≡ c.in-Some.first ∷ others =
    sym c.into_iter-seats.ensures.rest ∙ (c.in-Some.ensures.items ∙ ap (λ it. c.in-Some.first ∷ it.rest.items) (sym c.into_iter-seat-iterator.ensures.into_iter_gives)) in
    let me = c.first.inside.place.me in
    let has : Came c.args.shared.now.table_id c.first.inside.place.table_id me c.in-Some.first others =
    came c.args.shared.now.table_id c.first.inside.place.table_id me c.first.inside.number c.first.inside.made c.in-Some.first c.args.seats.items
    others c.first.invariant c.first.view_is list c.requires.seats in (
      tt,
      tt,
      has.table_is,
      has.idle,
      has.bare,
      subst (λ (seats : List Held). 0 < length seats) (sym has.seats) (omega arith),
      has.others_are,
      ap (λ (seats : List Held). seats ++ map held_of others) has.seats ∙ ap (λ (cs : List SeatState). map held_of cs) (sym list),
    )

pub join_seat-requires : goal.join_seat-requires
join_seat-requires g c =
    let shared = c.args.shared.now in
    let place = c.loop-seat.place in
    let other = c.seat.inside.place in
    let kept = c.loop-seat.invariant in
    let has : Came shared.table_id other.table_id other.me c.in-Some-seat.seat c.next-in-loop-seat.new.self.rest.items =
    came shared.table_id other.table_id other.me c.seat.inside.number c.seat.inside.made c.in-Some-seat.seat c.loop-seat.seat-iterator.rest.items
    c.next-in-loop-seat.new.self.rest.items c.seat.invariant c.seat.view_is
    c.in-Some-seat.ensures.steps.0 kept.6 in (
      kept.2,
      has.table_is,
      has.bare,
      omega (arith, c.requires.table.0),
      subst (λ (w : View). Joins (IsGated shared.key) place.id place.me.0 other.id w (with_seats place.me.0 w) (note_view [])) (sym (ap (λ (m : Seated). m.0) c.seat.invariant.rests))
          (gathers shared.key place.id place.me.0 other.id c.seat.inside.number (seen_in other.me) other.me.0.most kept.5),
    )

pub loop-seat-preserved : goal.loop-seat-preserved
loop-seat-preserved g c =
    let shared = c.args.shared.now in
    let place = c.loop-seat.place in
    let other = c.seat.inside.place in
    let kept = c.loop-seat.invariant in
    let others = c.next-in-loop-seat.new.self.rest.items in
    let has : Came shared.table_id other.table_id other.me c.in-Some-seat.seat others =
    came shared.table_id other.table_id other.me c.seat.inside.number c.seat.inside.made c.in-Some-seat.seat c.loop-seat.seat-iterator.rest.items
    others c.seat.invariant c.seat.view_is c.in-Some-seat.ensures.steps.0 kept.6 in
    let joined = c.join_seat.ensures in
    let seats : c.join_seat.new.seat.me.0.seats ≡ place.me.0.seats ++ held_of c.in-Some-seat.seat ∷ [] =
    ap (λ (m : Seated). m.0.seats) joined.2 ∙ ap (λ (hs : List Held). place.me.0.seats ++ hs) has.seats in (
      tt,
      tt,
      joined.0 ∙ kept.2,
      ap (λ (m : Seated). m.0.stage) joined.2 ∙ kept.3,
      ap (λ (m : Seated). m.1) joined.2 ∙ kept.4,
      omega (arith, kept.5, ap length seats, length-append place.me.0.seats (held_of c.in-Some-seat.seat ∷ [])),
      has.others_are,
      grown place.me.0.seats c.join_seat.new.seat.me.0.seats c.in-Some-seat.seat others c.loop-seat.seat-iterator.rest.items
          (map held_of c.args.seats.items) seats c.in-Some-seat.ensures.steps.0 kept.7,
    )

pub returns-clause-seats : goal.returns-clause-seats
returns-clause-seats g c =
    let kept = c.loop-seat.invariant in
    let none : c.loop-seat.seat-iterator.rest.items ≡ [] = nil_from_length _ (sym c.loop-seat.seat-iterator.rest.ok.0 ∙ c.in-None.ensures.steps.0) in
    sym (append-nil c.loop-seat.place.me.0.seats) ∙ (ap (λ (cs : List SeatState). c.loop-seat.place.me.0.seats ++ map held_of cs) (sym none) ∙ kept.7)
