use Rattle.std.proofs.Common.{◌≡◌, sym, ap, subst, ◌∙◌}
use Rattle.desk_core.specs.Past.{past}
use Rattle.desk_core.specs.Reason.{depends_by, down_by, first_down}
use Rattle.desk_core.specs.Status.{status_at}
use Rattle.desk_core.proofs.ReasonLemmas.{depends_so}
use Rattle.desk_core.proofs.desk.Desk.why_down.Goals as goal

pub returns-in-Some : goal.returns-in-Some
returns-in-Some g c =
    ap depends_by (sym c.in-Some.is)
    ∙ subst (λ state. depends_by c.first_down.result ≡ depends_by (first_down (status_at (past state.journal)) c.in-Depends.mask 16)) c.self.view_is
    (depends_so (past c.self.inside.history.journal.items) c.statuses.result c.in-Depends.mask c.first_down.result (c.statuses.ensures ∙ c.self.invariant.0.cached)
    c.first_down.ensures)
    ∙ sym (ap (down_by g.K.Keep.kept (past c.args.self.now.journal) c.args.slot) c.in-Depends.is)

pub returns-in-None : goal.returns-in-None
returns-in-None g c =
    ap depends_by (sym c.in-None.is)
    ∙ subst (λ state. depends_by c.first_down.result ≡ depends_by (first_down (status_at (past state.journal)) c.in-Depends.mask 16)) c.self.view_is
    (depends_so (past c.self.inside.history.journal.items) c.statuses.result c.in-Depends.mask c.first_down.result (c.statuses.ensures ∙ c.self.invariant.0.cached)
    c.first_down.ensures)
    ∙ sym (ap (down_by g.K.Keep.kept (past c.args.self.now.journal) c.args.slot) c.in-Depends.is)
