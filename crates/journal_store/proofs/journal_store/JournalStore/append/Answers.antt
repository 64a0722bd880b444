use Rattle.std.proofs.Common.{◌≡◌, ◌∙◌, ◌++◌, ap, ℕ, List, Option, true, false, Some, inl, inr, refl, subst, sym}
use Rattle.record_log.specs.Log.{IsReady, blocks, texts}
use Rattle.journal_store.specs.Kept.{Kept, asked, settled}
use Rattle.journal_store.specs.Held.{Held}
use Rattle.journal_store.specs.Record.{AreAdded}
use Rattle.journal_store.specs.declared.text.Text.{Text}
use Rattle.journal_store.proofs.HoldLemmas.{hold_more}
use Rattle.journal_store.proofs.FaithfulLemmas.{Faithful, cut_back, did_not_fail, failed, put_off, stored, the_log, written_on}
use Rattle.journal_store.proofs.journal_store.JournalStore.append.Goals as goal

pub invariant_of-self : goal.invariant_of-self
invariant_of-self g c =
    let D = g.M.Device.Device in
    let inside = c.self.inside in
    let text : Text = record { preface = inside.text.preface; written = c.extend_from_slice.new.self; limit = inside.text.limit } in
    let same = c.in_default-extend_from_slice.ensures.items in
    put_off D.contents D.may_leave D.moment D.left_since inside.log inside.is_open inside.text text inside.other inside.told.kept refl same c.self.invariant

pub invariant_of-self-then-is_err : goal.invariant_of-self-then-is_err
invariant_of-self-then-is_err g c =
    let D = g.M.Device.Device in
    let known = c.self.invariant in
    let kept = c.self.inside.told.kept in
    let entries = c.args.entries.now in
    let batch = texts c.args.batch.now in
    let front = c.self.inside.text.preface in
    let records = known.is.records in
    let of = hold_more kept.start front records batch kept.journal entries known.is.hold (subst (λ (w : List ℕ). AreAdded front w batch entries) known.is.whole (subst (λ (h : Held). AreAdded h.front h.written batch entries) (sym c.self.view_is) c.requires.of)) in
    let log = c.in-Some.log in
    let is_open : c.self.inside.is_open ≡ true = ap (λ (h : Held). h.is_open) c.self.view_is ∙ c.requires.open in
    let some : c.self.inside.log ≡ Some log = sym c.in-Some.ensures.value in
    let is : c.and-self-inside.result.kept ≡ asked kept entries = c.and-self-inside.ensures in
    let whole : c.truncate-then-is_err.new.self.items ≡ blocks records = cut_back c.self.inside.text.written.items _ c.extend_from_slice.new.self.items _ c.len-before.result _ c.len-before.ensures c.self.inside.text.written.ok.0 c.in-Ok-extend_from_slice.ensures.items c.truncate-then-is_err.ensures.items ∙ known.is.whole in
    let ready = the_log D.contents D.may_leave c.self.inside.log log records some (known.ready is_open) in
    let run = c.append-stored.ensures.any_moment records ready in
    let now : Text = record { preface = front; written = c.truncate-then-is_err.new.self; limit = c.self.inside.text.limit } in
    subst (λ (o : Option Text). Faithful D.contents D.may_leave D.moment D.left_since (Some c.append-stored.new.self) false now o c.and-self-inside.result.kept) (sym (known.alone is_open))
    (failed D.contents D.may_leave D.moment D.left_since now log c.append-stored.new.self c.self.inside.log some records batch kept entries known.is.hold of run known.since g.met.M.Device.Device.counts_now _ whole is)

pub invariant_of-self-2 : goal.invariant_of-self-2
invariant_of-self-2 g c =
    let D = g.M.Device.Device in
    let known = c.self.invariant in
    let kept = c.self.inside.told.kept in
    let entries = c.args.entries.now in
    let batch = texts c.args.batch.now in
    let front = c.self.inside.text.preface in
    let records = known.is.records in
    let of = hold_more kept.start front records batch kept.journal entries known.is.hold (subst (λ (w : List ℕ). AreAdded front w batch entries) known.is.whole (subst (λ (h : Held). AreAdded h.front h.written batch entries) (sym c.self.view_is) c.requires.of)) in
    let log = c.in-Some.log in
    let is_open : c.self.inside.is_open ≡ true = ap (λ (h : Held). h.is_open) c.self.view_is ∙ c.requires.open in
    let some : c.self.inside.log ≡ Some log = sym c.in-Some.ensures.value in
    let is : c.and-self-inside-2.result.kept ≡ settled (asked kept entries) entries = c.and-self-inside-2.ensures ∙ ap (λ (k : Kept). settled k entries) c.and-self-inside.ensures in
    let grown = rw (c.len.ensures, c.deref.ensures.value, c.in-Ok.text.ok.0) at c.in-Ok-extend_from_slice.ensures.items in
    let whole = written_on records batch c.self.inside.text.written.items c.in-Ok.text.items c.extend_from_slice.new.self.items known.is.whole c.in-Ok.ensures grown in
    let ready = the_log D.contents D.may_leave c.self.inside.log log records some (known.ready is_open) in
    let again : IsReady D.contents D.may_leave c.append-stored.new.self (records ++ batch) = did_not_fail c.append-stored.result c.append-stored.ensures.acknowledged (sym c.is_err.ensures.value ∙ c.if-is_err.false) records ready in
    let run = c.append-stored.ensures.any_moment records ready in
    let now : Text = record { preface = front; written = c.extend_from_slice.new.self; limit = c.self.inside.text.limit } in
    subst (λ (o : Option Text). Faithful D.contents D.may_leave D.moment D.left_since (Some c.append-stored.new.self) c.self.inside.is_open now o c.and-self-inside-2.result.kept) (sym (known.alone is_open))
    (stored D.contents D.may_leave D.moment D.left_since now log c.append-stored.new.self c.self.inside.log some records batch kept entries known.is.hold of run known.since _ _ whole is again)

pub append-stored-requires : goal.append-stored-requires
append-stored-requires g c =
    let D = g.M.Device.Device in
    let known = c.self.invariant in
    let is_open : c.self.inside.is_open ≡ true = ap (λ (h : Held). h.is_open) c.self.view_is ∙ c.requires.open in
    record {
      ready = (known.is.records, the_log D.contents D.may_leave c.self.inside.log c.in-Some.log known.is.records (sym c.in-Some.ensures.value) (known.ready is_open));
      some = c.requires.some;
      short = c.requires.short;
    }

pub returns-in_default-extend_from_slice-clause-err : goal.returns-in_default-extend_from_slice-clause-err
returns-in_default-extend_from_slice-clause-err g c = inl (ap (λ (h : Held). h.kept) c.self.view_is)

pub returns-in_default-extend_from_slice-clause-front : goal.returns-in_default-extend_from_slice-clause-front
returns-in_default-extend_from_slice-clause-front g c = ap (λ (h : Held). h.front) c.self.view_is

pub returns-in_default-extend_from_slice-clause-limit : goal.returns-in_default-extend_from_slice-clause-limit
returns-in_default-extend_from_slice-clause-limit g c = (ap (λ (h : Held). h.limit) c.self.view_is, ap (λ (h : Held). h.least) c.self.view_is)

pub returns-then-is_err-clause-err : goal.returns-then-is_err-clause-err
returns-then-is_err-clause-err g c = inr (c.and-self-inside.ensures ∙ ap (λ (h : Held). asked h.kept c.args.entries.now) c.self.view_is)

pub returns-then-is_err-clause-front : goal.returns-then-is_err-clause-front
returns-then-is_err-clause-front g c = ap (λ (h : Held). h.front) c.self.view_is

pub returns-then-is_err-clause-limit : goal.returns-then-is_err-clause-limit
returns-then-is_err-clause-limit g c = (ap (λ (h : Held). h.limit) c.self.view_is, ap (λ (h : Held). h.least) c.self.view_is)

pub returns-clause-ok : goal.returns-clause-ok
returns-clause-ok g c =
    c.and-self-inside-2.ensures
    ∙ ap (λ (k : Kept). settled k c.args.entries.now) (c.and-self-inside.ensures ∙ ap (λ (h : Held). asked h.kept c.args.entries.now) c.self.view_is)

pub returns-clause-open : goal.returns-clause-open
returns-clause-open g c = ap (λ (h : Held). h.is_open) c.self.view_is ∙ c.requires.open

pub returns-clause-front : goal.returns-clause-front
returns-clause-front g c = ap (λ (h : Held). h.front) c.self.view_is

pub returns-clause-limit : goal.returns-clause-limit
returns-clause-limit g c = (ap (λ (h : Held). h.limit) c.self.view_is, ap (λ (h : Held). h.least) c.self.view_is)

pub returns-in_default-take-clause-err : goal.returns-in_default-take-clause-err
returns-in_default-take-clause-err g c = inl (ap (λ (h : Held). h.kept) c.self.view_is)

pub returns-in_default-take-clause-front : goal.returns-in_default-take-clause-front
returns-in_default-take-clause-front g c = ap (λ (h : Held). h.front) c.self.view_is

pub returns-in_default-take-clause-limit : goal.returns-in_default-take-clause-limit
returns-in_default-take-clause-limit g c = (ap (λ (h : Held). h.limit) c.self.view_is, ap (λ (h : Held). h.least) c.self.view_is)
