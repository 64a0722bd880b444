use Rattle.std.proofs.Common.{◌∙◌, ap, subst}
use Rattle.std.specs.List.{All, sum_by}
use Rattle.desk_core.specs.Past.{past}
use Rattle.hall.specs.Seats.{IsSeenIn}
use Rattle.server.proofs.OwnLemmas.{made, only_seat}
use Rattle.server.proofs.storing.SetUpHall+P.into_entries.Goals as goal

pub returns-clause-entries : goal.returns-clause-entries
returns-clause-entries g c = λ calls set.
    c.in_ok-entries.ensures.items ∙ c.journal.ensures.entries
    ∙ only_seat c.args.self.hall calls c.args.self.results c.args.self.seats c.in-Ok.field-0.desk.journal
    (subst (All (IsSeenIn (past c.in-Ok.field-0.desk.journal))) c.into_hall-hall.ensures.seats c.in-Ok.ensures.seats)
    (c.in-Ok.ensures.counted ∙ ap (sum_by made) c.into_hall-hall.ensures.seats) set
