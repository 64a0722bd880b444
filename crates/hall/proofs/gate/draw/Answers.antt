use Rattle.std.proofs.Common.{◌<◌, length, sym, ap, subst, arith, ◌∙◌}
use Rattle.hall.specs.Views.{at_stage}
use Rattle.hall.specs.declared.view.GateStage.TheVariants.{Queued}
use Rattle.hall.specs.Steps.{Seated}
use Rattle.hall.proofs.Turns.{draws}
use Rattle.hall.proofs.gate.draw.Goals as goal

pub fetch_add-requires : goal.fetch_add-requires
fetch_add-requires g c =
    let shared = c.args.shared.now in
    let place = c.args.place.now in
    let rests = c.requires.rests in (
      c.requires.table.1,
      omega (arith, c.requires.table.0),
      draws shared.key shared.table_id.slots place.id place.me (ap (λ (me : Seated). me.0.stage) rests) (subst (λ (me : Seated). 0 < length me.0.seats) (sym rests) (omega arith)),
    )

pub returns-clause-ticket : goal.returns-clause-ticket
returns-clause-ticket g c =
    let place = c.args.place.now in
    let drawn = c.fetch_add.ensures.2 in
    let bare = ap (λ (me : Seated). me.1) c.requires.rests in
    (drawn.0, drawn.1, drawn.2 ∙ ap (λ held. (at_stage place.me.0 (Queued drawn.0), held)) bare)
