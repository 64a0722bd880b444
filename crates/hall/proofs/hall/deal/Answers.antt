use Rattle.std.proofs.Common.{◌≡◌, ℕ, ◌+◌, ◌∷◌, [], List, ap, sym, subst, arith, ◌∙◌, ◌++◌}
use Rattle.std.proofs.lemmas.List.FromFn.{map-range_with_len_more}
use Rattle.atomic_table.specs.Table.{Splits}
use Rattle.atomic_table.specs.Seated.{TableId}
use Rattle.hall.specs.declared.view.HallLimits.{HallLimits}
use Rattle.hall.specs.declared.view.View.{View}
use Rattle.hall.specs.Gates.{IsGated}
use Rattle.hall.specs.Seats.{SeatState}
use Rattle.hall.specs.Steps.{Seated}
use Rattle.hall.specs.Views.{dealer, seat_view}
use Rattle.hall.proofs.Seats.{deals}
use Rattle.hall.proofs.Taken.{seat_of}
use Rattle.hall.proofs.hall.deal.Goals as goal

pub split_seat-requires : goal.split_seat-requires
split_seat-requires g c =
    let key = c.args.table.now.shared.key in
    let number = c.loop-number.number in
    let place = c.loop-number.first in (
      c.loop-number.invariant.0,
      omega (arith, c.requires.table.0),
      subst (λ (v : View). Splits (IsGated key) place.id v (dealer (v.dealt + 1) v.most) (seat_view v.dealt [] v.most)) (sym (ap (λ (me : Seated). me.0) c.loop-number.invariant.1))
          (deals key place.id number c.args.most (omega (arith, c.loop-number-test.true, ap (λ (k : HallLimits). k.seats) c.requires.table.1))),
    )

pub loop-number-preserved : goal.loop-number-preserved
loop-number-preserved g c =
    let number = c.loop-number.number in
    let table = c.args.table.now.shared.table_id in
    let split = c.split_seat.ensures in
    let me = ap (λ (m : Seated). m.0) c.loop-number.invariant.1 in
    let seat : SeatState = record { table = table; most = c.args.most; number = number; seen = [] } in
    let dealt : seat_of c.split_seat.result.table_id c.split_seat.result.me number ≡ seat =
    ap (λ (m : Seated). seat_of c.split_seat.result.table_id m number) (split.4 ∙ ap (λ (v : View). (seat_view v.dealt [] v.most, [])) me)
    ∙ ap (λ (t : TableId). record { table = t; most = c.args.most; number = number; seen = [] }) (split.3 ∙ c.loop-number.invariant.0) in (
      split.0 ∙ c.loop-number.invariant.0,
      split.2 ∙ (ap (λ (v : View). (dealer (v.dealt + 1) v.most, c.loop-number.first.me.1)) me ∙ ap (λ (m : Seated). (dealer (number + 1) c.args.most, m.1)) c.loop-number.invariant.1),
      c.in_ok-push.ensures.items
          ∙ (ap (λ (x : SeatState). c.loop-number.dealt.items ++ x ∷ []) dealt
          ∙ (ap (λ (xs : List SeatState). xs ++ seat ∷ []) c.loop-number.invariant.2
          ∙ sym (map-range_with_len_more (λ (n : ℕ). record { table = table; most = c.args.most; number = n; seen = [] }) 0 number number (omega arith)))),
    )
