use Rattle.std.proofs.Common.{◌≡◌, ◌∷◌, [], List, ap, sym, subst, arith, ◌∙◌, ◌++◌}
use Rattle.std.specs.Prelude.{Option, Some}
use Rattle.atomic_table.specs.Table.{opening}
use Rattle.desk_core.specs.Desk.{State}
use Rattle.hall.specs.declared.view.HallLimits.{HallLimits}
use Rattle.hall.specs.Gates.{IsGated}
use Rattle.hall.specs.Views.{dealer}
use Rattle.hall.proofs.Seats.{opens}
use Rattle.hall.proofs.hall.lay.Goals as goal

pub new-requires-2 : goal.new-requires-2
new-requires-2 g c =
    let key : HallLimits = record { most = c.args.most; seats = c.args.seats } in
    let slots : c.push.new.self.items ≡ Some c.new.result ∷ [] = c.in_ok-push.ensures.items ∙ ap (λ (xs : List (Option State)). xs ++ Some c.new.result ∷ []) c.in_ok-slots.ensures.items in
    subst (λ (xs : List (Option State)). IsGated key (opening (0 ∷ 0 ∷ 0 ∷ []) xs (dealer 0 c.args.most))) (sym slots)
    (opens key c.new.result (omega (arith, c.ranges.most.fits)) (omega (arith, c.ranges.seats.fits)) c.new.ensures)
