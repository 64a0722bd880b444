use Rattle.std.proofs.Common.{◌∙◌, ap, subst}
use Rattle.journal_store.specs.Faithful.{HasLeftSince, LeavesOneOf}
use Rattle.journal_store.specs.Held.{Held}
use Rattle.journal_store.proofs.FaithfulLemmas.{log_has_left, log_leaves, not_open}
use Rattle.journal_store.proofs.journal_store.JournalStore.device.Goals as goal

pub returns-in-Some-clause-now : goal.returns-in-Some-clause-now
returns-in-Some-clause-now g c =
    let D = g.M.Device.Device in
    let kept = c.self.inside.told.kept in
    subst (λ (h : Held). LeavesOneOf h.kept.start (D.may_leave c.in-Some.log.device) h.kept.left.now) c.self.view_is
    (log_leaves D.contents D.may_leave kept.start kept.left.now c.self.inside.log c.in-Some.log c.in-Some.is c.self.invariant.crash)

pub returns-in-Some-clause-since : goal.returns-in-Some-clause-since
returns-in-Some-clause-since g c =
    let D = g.M.Device.Device in
    subst (λ (h : Held). HasLeftSince D.moment D.left_since c.in-Some.log.device h.kept) c.self.view_is
    (log_has_left D.contents D.may_leave D.moment D.left_since c.self.inside.told.kept c.self.inside.log c.in-Some.log c.in-Some.is c.self.invariant.since)

pub returns-in-None-clause-open : goal.returns-in-None-clause-open
returns-in-None-clause-open g c = λ is_open.
    let D = g.M.Device.Device in
    not_open D.contents D.may_leave c.self.inside.log c.self.invariant.is.records c.in-None.is (c.self.invariant.ready (ap (λ (h : Held). h.is_open) c.self.view_is ∙ is_open))
