use Rattle.std.proofs.Common.{◌≡◌, ◌∙◌, ◌+◌, ◌*◌, List, ℕ, Bool, true, Option, Some, ap, inl, inr, length, sym, subst}
use Rattle.std.specs.Prelude.{max}
use Rattle.record_log.specs.Log.{blocks}
use Rattle.journal_store.specs.declared.text.Text.{Text}
use Rattle.journal_store.specs.Held.{Held}
use Rattle.journal_store.specs.Kept.{opened_at}
use Rattle.journal_store.specs.Preface.{Front}
use Rattle.journal_store.specs.Record.{HoldJournal, IsFileOf, IsTextOf}
use Rattle.journal_store.proofs.FaithfulLemmas.{Faithful, put_off, replaced}
use Rattle.journal_store.proofs.LimitLemmas.{another_front, below_later, below_twice, not_short}
use Rattle.journal_store.proofs.journal_store.JournalStore.write_anew_if_long.Goals as goal

pub invariant_of-self : goal.invariant_of-self
invariant_of-self g c =
    let D = g.M.Device.Device in
    let inside = c.self.inside in
    put_off D.contents D.may_leave D.moment D.left_since inside.log inside.is_open inside.text c.put_off.new.self inside.other inside.told.kept c.put_off.ensures.front c.put_off.ensures.same c.self.invariant

pub replace-replaced-requires : goal.replace-replaced-requires
replace-replaced-requires g c =
    let D = g.M.Device.Device in
    let inside = c.self.inside in
    let kept = inside.told.kept in
    let text = c.put_off.new.self in
    let known = put_off D.contents D.may_leave D.moment D.left_since inside.log inside.is_open inside.text text inside.other kept c.put_off.ensures.front c.put_off.ensures.same c.self.invariant in
    let is = subst (λ (l : List ℕ). IsTextOf kept.start text.preface l kept.journal) (sym c.deref.ensures.value) known.is in
    let file : IsFileOf kept.start c.in-Some.renewed.preface c.in-Some.renewed.file.items kept.journal = c.in-Some.ensures.holds kept.start kept.journal is in
    record { whole = (file.records, c.deref-2.ensures.value ∙ file.whole) }

pub invariant_of-self-2 : goal.invariant_of-self-2
invariant_of-self-2 g c =
    let D = g.M.Device.Device in
    let inside = c.self.inside in
    let kept = inside.told.kept in
    let text = c.put_off.new.self in
    let known = put_off D.contents D.may_leave D.moment D.left_since inside.log inside.is_open inside.text text inside.other kept c.put_off.ensures.front c.put_off.ensures.same c.self.invariant in
    let is = subst (λ (l : List ℕ). IsTextOf kept.start text.preface l kept.journal) (sym c.deref.ensures.value) known.is in
    let file : IsFileOf kept.start c.in-Some.renewed.preface c.in-Some.renewed.file.items kept.journal = c.in-Some.ensures.holds kept.start kept.journal is in
    let new = c.text-text.result in
    let log = c.in-Ok.log in
    let now : IsTextOf kept.start new.preface new.written.items kept.journal = record {
      records = file.records;
      whole = c.text-text.ensures.open (blocks file.records) file.whole;
      hold = subst (λ (f : Front). HoldJournal kept.start f file.records kept.journal) (sym c.text-text.ensures.front) file.hold;
    } in
    let is_open : inside.is_open ≡ true = ap (λ (h : Held). h.is_open) c.self.view_is ∙ c.requires.open in
    let at = c.opened-self-inside.ensures in
    let ready = c.in-Ok.ensures.ready file.records (c.deref-2.ensures.value ∙ file.whole) in
    subst (λ (b : Bool). Faithful D.contents D.may_leave D.moment D.left_since (Some log) b new inside.other c.opened-self-inside.result.kept) (sym is_open)
    (subst (λ (o : Option Text). Faithful D.contents D.may_leave D.moment D.left_since (Some log) true new o c.opened-self-inside.result.kept) (sym (known.alone is_open))
    (replaced D.contents D.may_leave D.moment D.left_since g.met.M.Device.Device.only_now log new kept _ now ready (known.durable is_open) at))

pub returns-in_default-clause-kept : goal.returns-in_default-clause-kept
returns-in_default-clause-kept g c = inl (ap (λ (h : Held). h.kept) c.self.view_is)

pub returns-in_default-clause-same : goal.returns-in_default-clause-same
returns-in_default-clause-same g c = λ _. ap (λ (h : Held). h.kept) c.self.view_is

pub returns-in_default-clause-short : goal.returns-in_default-clause-short
returns-in_default-clause-short g c = not_short c.args.self.now c.self.inside.text.written.items c.len.result c.self.inside.text.limit (ap (λ (h : Held). h.written) c.self.view_is) (ap (λ (h : Held). h.limit) c.self.view_is) (c.len.ensures ∙ c.self.inside.text.written.ok.0) c.if-len-self.false

pub returns-in_default-clause-bounded : goal.returns-in_default-clause-bounded
returns-in_default-clause-bounded g c = below_later c.self.inside.text.written.items c.put_off.new.self.written.items c.put_off.new.self.limit c.put_off.ensures.same c.put_off.ensures.later

pub returns-in_default-clause-limit : goal.returns-in_default-clause-limit
returns-in_default-clause-limit g c = inr (inr (c.put_off.ensures.later ∙ ap (λ (l : List ℕ). length l + 1048576) (sym c.put_off.ensures.same)))

pub returns-in_default-take-clause-kept : goal.returns-in_default-take-clause-kept
returns-in_default-take-clause-kept g c = inl (ap (λ (h : Held). h.kept) c.self.view_is)

pub returns-in_default-take-clause-same : goal.returns-in_default-take-clause-same
returns-in_default-take-clause-same g c = λ _. ap (λ (h : Held). h.kept) c.self.view_is

pub returns-in_default-take-clause-short : goal.returns-in_default-take-clause-short
returns-in_default-take-clause-short g c = not_short c.args.self.now c.self.inside.text.written.items c.len.result c.self.inside.text.limit (ap (λ (h : Held). h.written) c.self.view_is) (ap (λ (h : Held). h.limit) c.self.view_is) (c.len.ensures ∙ c.self.inside.text.written.ok.0) c.if-len-self.false

pub returns-in_default-take-clause-bounded : goal.returns-in_default-take-clause-bounded
returns-in_default-take-clause-bounded g c = below_later c.self.inside.text.written.items c.put_off.new.self.written.items c.put_off.new.self.limit c.put_off.ensures.same c.put_off.ensures.later

pub returns-in_default-take-clause-limit : goal.returns-in_default-take-clause-limit
returns-in_default-take-clause-limit g c = inr (inr (c.put_off.ensures.later ∙ ap (λ (l : List ℕ). length l + 1048576) (sym c.put_off.ensures.same)))

pub returns-in_default-replaced-clause-kept : goal.returns-in_default-replaced-clause-kept
returns-in_default-replaced-clause-kept g c = inl (ap (λ (h : Held). h.kept) c.self.view_is)

pub returns-in_default-replaced-clause-same : goal.returns-in_default-replaced-clause-same
returns-in_default-replaced-clause-same g c = λ _. ap (λ (h : Held). h.kept) c.self.view_is

pub returns-in_default-replaced-clause-short : goal.returns-in_default-replaced-clause-short
returns-in_default-replaced-clause-short g c = not_short c.args.self.now c.self.inside.text.written.items c.len.result c.self.inside.text.limit (ap (λ (h : Held). h.written) c.self.view_is) (ap (λ (h : Held). h.limit) c.self.view_is) (c.len.ensures ∙ c.self.inside.text.written.ok.0) c.if-len-self.false

pub returns-in_default-replaced-clause-bounded : goal.returns-in_default-replaced-clause-bounded
returns-in_default-replaced-clause-bounded g c = below_later c.self.inside.text.written.items c.put_off.new.self.written.items c.put_off.new.self.limit c.put_off.ensures.same c.put_off.ensures.later

pub returns-in_default-replaced-clause-limit : goal.returns-in_default-replaced-clause-limit
returns-in_default-replaced-clause-limit g c = inr (inr (c.put_off.ensures.later ∙ ap (λ (l : List ℕ). length l + 1048576) (sym c.put_off.ensures.same)))

pub returns-clause-kept : goal.returns-clause-kept
returns-clause-kept g c =
    inr (g.M.Device.Device.moment c.in-Ok.log.device, c.opened-self-inside.ensures ∙ ap (λ (h : Held). opened_at h.kept (g.M.Device.Device.moment c.in-Ok.log.device)) c.self.view_is)

pub returns-clause-same : goal.returns-clause-same
returns-clause-same g c = another_front c.args.self.now.front c.self.inside.text.preface c.put_off.new.self.preface c.in-Some.renewed.preface c.text-text.result.preface (ap (λ (h : Held). h.front) c.self.view_is) c.put_off.ensures.front c.text-text.ensures.front c.in-Some.ensures.shorter

pub returns-clause-short : goal.returns-clause-short
returns-clause-short g c = not_short c.args.self.now c.self.inside.text.written.items c.len.result c.self.inside.text.limit (ap (λ (h : Held). h.written) c.self.view_is) (ap (λ (h : Held). h.limit) c.self.view_is) (c.len.ensures ∙ c.self.inside.text.written.ok.0) c.if-len-self.false

pub returns-clause-bounded : goal.returns-clause-bounded
returns-clause-bounded g c = below_twice _ c.self.inside.least _ c.text-text.ensures.limit

pub returns-clause-limit : goal.returns-clause-limit
returns-clause-limit g c = inr (inl (c.text-text.ensures.limit ∙ ap (λ (h : Held). max (2 * length c.text-text.result.written.items) h.least) c.self.view_is))
