use Rattle.std.proofs.Common.{◌<◌, sym, ap, ◌∙◌, rules}
use Rattle.desk_core.specs.Past.{past}
use Rattle.desk_core.specs.Board.{status_in}
use Rattle.desk_core.specs.Status.{status_at, checked}
use Rattle.desk_core.proofs.DeskLemmas.{read_status}
use Rattle.desk_core.proofs.desk.Desk.check.Goals as goal

pub returns-clause-status : goal.returns-clause-status
returns-clause-status g c =
    let few : c.in_ok-slot.field-0 < 16 = search rules in
    c.get.ensures
    ∙ ap (λ word. status_in word c.in_ok-slot.field-0) c.statuses.ensures
    ∙ read_status (past c.self.inside.history.journal.items) c.self.inside.history.cache.statuses c.in_ok-slot.field-0 c.self.invariant.0.cached few
    ∙ ap (λ state. status_at (past state.journal) c.in_ok-slot.field-0) c.self.view_is
    ∙ ap (checked (past c.args.self.now.journal)) (sym c.in_ok-slot.was)
