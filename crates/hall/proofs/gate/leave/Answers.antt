use Rattle.std.proofs.Common.{◌≡◌, ◌+◌, ◌%◌, ◌^◌, [], ◌∷◌, sym, refl, ap, subst, arith, ◌∙◌}
use Rattle.std.specs.Prelude.{Some}
use Rattle.atomic_table.specs.Table.{Allows, rest}
use Rattle.desk_core.specs.Past.{past}
use Rattle.hall.specs.Views.{desk_view}
use Rattle.hall.specs.Gates.{IsGated}
use Rattle.hall.specs.Steps.{Seated, Passed, number_in}
use Rattle.hall.proofs.Commits.{passes}
use Rattle.hall.proofs.gate.leave.Goals as goal

pub fetch_add-requires : goal.fetch_add-requires
fetch_add-requires g c =
    let shared = c.args.shared.now in
    let place = c.args.place.now in
    let desk = c.args.desk in
    let number = number_in place.me in
    let history = past desk.journal in
    let had = c.requires.desk in
    let now : c.exchange.new.seat.me ≡ (desk_view number history desk.max_entries had.0 history, (0, Some desk) ∷ []) =
    c.exchange.ensures.3 ∙ ap (λ (me : Seated). (me.0, (0, Some desk) ∷ rest me.1)) had.1 in
    let step = passes shared.key shared.table_id.slots c.exchange.new.seat.id number desk.max_entries had.0 history history desk refl refl in (
      c.exchange.ensures.0 ∙ c.requires.table.1,
      omega (arith, c.requires.table.0),
      subst (λ (me : Seated). Allows (IsGated shared.key) shared.table_id.slots c.exchange.new.seat.id me 2 (λ found. (found + 1) % 2 ^ 64) (Passed me)) (sym now) step,
    )
