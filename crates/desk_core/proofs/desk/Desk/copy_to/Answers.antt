use Rattle.std.proofs.Common.{◌≡◌, ap, sym, subst, ◌∙◌}
use Rattle.desk_core.specs.Changes.{changes_of}
use Rattle.desk_core.specs.Desk.{State}
use Rattle.desk_core.specs.Past.{past}
use Rattle.desk_core.specs.Transcript.{IsCopyWithin}
use Rattle.desk_core.proofs.desk.Desk.copy_to.Goals as goal

pub follow-requires-clause-copy : goal.follow-requires-clause-copy
follow-requires-clause-copy g c =
    let is : c.changes.result.now.items ≡ changes_of (past c.args.self.now.journal) =
    ap (λ tail. tail.items) c.changes.ensures ∙ c.self.invariant.0.told ∙ ap (λ (desk : State). changes_of (past desk.journal)) c.self.view_is in
    subst (IsCopyWithin c.args.copy.now) (sym is) c.requires
