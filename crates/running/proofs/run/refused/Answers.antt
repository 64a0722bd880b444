use Rattle.std.proofs.Common.{◌∙◌, ap, length, subst}
use Rattle.std.specs.List.{All, sum_by}
use Rattle.desk_core.specs.Past.{past}
use Rattle.hall.specs.Seats.{SeatState, IsSeenIn, own_calls}
use Rattle.running.proofs.AloneLemmas.{made_alone}
use Rattle.running.proofs.run.refused.Goals as goal

pub returns-clause-alone : goal.returns-clause-alone
returns-clause-alone g c = λ calls set.
    made_alone calls c.args.made c.in-Ok.field-0.desk.journal c.requires.some c.requires.whole set c.in-Ok.ensures.legal
    (subst (All (IsSeenIn (past c.in-Ok.field-0.desk.journal))) c.into_hall-hall.ensures.seats c.in-Ok.ensures.seats)
    (c.in-Ok.ensures.counted ∙ ap (sum_by (λ (seat : SeatState). length (own_calls seat))) c.into_hall-hall.ensures.seats)
