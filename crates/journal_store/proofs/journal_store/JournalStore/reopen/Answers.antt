use Rattle.std.proofs.Common.{◌≡◌, ◌∙◌, [], ◌∷◌, ap, inr, sym, true≢false}
use Rattle.journal_store.specs.Held.{Held}
use Rattle.journal_store.specs.Kept.{Kept, asked, opened_at, settled}
use Rattle.journal_store.proofs.FaithfulLemmas.{closed_at, reopened}
use Rattle.journal_store.proofs.KeptLemmas.{on_err}
use Rattle.journal_store.proofs.journal_store.JournalStore.reopen.Goals as goal

pub invariant_of-self-2 : goal.invariant_of-self-2
invariant_of-self-2 g c =
    let D = g.M.Device.Device in
    let known = c.self.invariant in
    let log = c.in_ok-log.log in
    let inside = c.self.inside in
    let kept = inside.told.kept in
    let at = c.opened-self-inside.ensures ∙ ap (λ (k : Kept). opened_at k (g.M.Device.Device.moment c.in_ok-log.log.device)) (c.and.ensures ∙ ap (λ (k : Kept). settled k []) c.and-self-inside.ensures) in
    reopened D.contents D.may_leave D.moment D.left_since g.met.M.Device.Device.only_now log kept _ inside.text _ inside.other _ known.is known.others c.open_either.ensures.turned at c.in_ok-log.ensures.ready

pub invariant_of-self : goal.invariant_of-self
invariant_of-self g c =
    let D = g.M.Device.Device in
    let inside = c.self.inside in
    closed_at D.contents D.may_leave D.moment D.left_since c.hold_failed.new.log inside.is_open inside.told.kept c.and-self-inside.result.kept inside.text c.open_either.new.text inside.other c.open_either.new.other c.hold_failed.ensures c.if-self.false
    c.self.invariant.is c.self.invariant.others c.open_either.ensures.turned c.and-self-inside.ensures

pub returns-in_err-log-clause-err : goal.returns-in_err-log-clause-err
returns-in_err-log-clause-err g c = on_err c.from_residual.result (c.and-self-inside.ensures ∙ ap (λ (h : Held). asked h.kept []) c.self.view_is)

pub returns-in_err-log-clause-same : goal.returns-in_err-log-clause-same
returns-in_err-log-clause-same g c = λ is_open. absurd (true≢false (sym is_open ∙ sym (ap (λ (h : Held). h.is_open) c.self.view_is) ∙ c.if-self.false))

pub returns-clause-durable : goal.returns-clause-durable
returns-clause-durable g c =
    let at : c.opened-self-inside.result.kept ≡ opened_at (settled (asked c.self.inside.told.kept []) []) (g.M.Device.Device.moment c.in_ok-log.log.device) = c.opened-self-inside.ensures ∙ ap (λ (k : Kept). opened_at k (g.M.Device.Device.moment c.in_ok-log.log.device)) (c.and.ensures ∙ ap (λ (k : Kept). settled k []) c.and-self-inside.ensures) in
    ap (λ (k : Kept). k.left.now) at ∙ sym (ap (λ (k : Kept). k.journal ∷ []) at)

pub returns-clause-ok : goal.returns-clause-ok
returns-clause-ok g c =
    inr (
      g.M.Device.Device.moment c.in_ok-log.log.device,
      c.opened-self-inside.ensures ∙ ap (λ (k : Kept). opened_at k (g.M.Device.Device.moment c.in_ok-log.log.device)) (c.and.ensures ∙ ap (λ (k : Kept). settled k []) c.and-self-inside.ensures)
          ∙ ap (λ (h : Held). opened_at (settled (asked h.kept []) []) (g.M.Device.Device.moment c.in_ok-log.log.device)) c.self.view_is,
    )

pub returns-clause-same : goal.returns-clause-same
returns-clause-same g c = λ is_open. absurd (true≢false (sym is_open ∙ sym (ap (λ (h : Held). h.is_open) c.self.view_is) ∙ c.if-self.false))
