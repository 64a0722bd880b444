use Rattle.std.proofs.Common.{rules, ◌≡◌, ◌++◌, refl, sym, subst, ap, inl, ◌∙◌}
use Rattle.desk_core.specs.Left.{HasLeft}
use Rattle.journal_store.specs.Held.{Held}
use Rattle.journal_store.specs.Kept.{Kept}
use Rattle.journal_store.proofs.FoundLemmas.{is_nothing}
use Rattle.journal_store.proofs.KeptLemmas.{IsStored, behind_same, journal_asked, leaves_alone, leaves_both, next_limit, nothing_behind, of_failed, of_both, on_err, opened_asked, same_left, stands_behind, stays, untouched}
use Rattle.journal_store.proofs.journal_store.JournalStore.keep.Goals as goal

pub returns-then-not-may_open-clause-crash : goal.returns-then-not-may_open-clause-crash
returns-then-not-may_open-clause-crash g c = λ journal is.
    let old = c.may_open.new.self.kept in
    let same : old ≡ c.args.self.now.kept = ap (λ (h : Held). h.kept) c.may_open.ensures in
    behind_same old c.args.self.now.kept old.left journal c.args.entries.now same is (untouched old.left old.journal (old.journal ++ c.args.entries.now))

pub returns-in_default-clause-crash : goal.returns-in_default-clause-crash
returns-in_default-clause-crash g c = λ journal is.
    let old = c.may_open.new.self.kept in
    let same : old ≡ c.args.self.now.kept = ap (λ (h : Held). h.kept) c.may_open.ensures in
    let new = c.reopen.new.self.kept in
    behind_same old c.args.self.now.kept new.left journal c.args.entries.now same is (of_both old new new c.args.entries.now c.in_ok-reopen.ensures.ok (inl refl))

pub returns-in_err-reopen-clause-crash : goal.returns-in_err-reopen-clause-crash
returns-in_err-reopen-clause-crash g c = λ journal is.
    let old = c.may_open.new.self.kept in
    let same : old ≡ c.args.self.now.kept = ap (λ (h : Held). h.kept) c.may_open.ensures in
    let new = c.reopen.new.self.kept in
    behind_same old c.args.self.now.kept new.left journal c.args.entries.now same is (of_failed old new c.args.entries.now c.in_err-reopen.ensures.err)

pub returns-then-is_empty-clause-crash : goal.returns-then-is_empty-clause-crash
returns-then-is_empty-clause-crash g c = λ journal is.
    let old = c.may_open.new.self.kept in
    let same : old ≡ c.args.self.now.kept = ap (λ (h : Held). h.kept) c.may_open.ensures in
    let new = c.reopen.new.self.kept in
    behind_same old c.args.self.now.kept new.left journal c.args.entries.now same is (of_both old new new c.args.entries.now c.in_ok-reopen.ensures.ok (inl refl))

pub returns-in_err-append-clause-crash : goal.returns-in_err-append-clause-crash
returns-in_err-append-clause-crash g c = λ journal is.
    let old = c.may_open.new.self.kept in
    let same : old ≡ c.args.self.now.kept = ap (λ (h : Held). h.kept) c.may_open.ensures in
    let mid = c.reopen.new.self.kept in
    let new = c.append.new.self.kept in
    let stored : IsStored mid c.args.entries.now new = search rules in
    behind_same old c.args.self.now.kept new.left journal c.args.entries.now same is (of_both old mid new c.args.entries.now c.in_ok-reopen.ensures.ok stored)

pub returns-clause-crash : goal.returns-clause-crash
returns-clause-crash g c = λ journal is.
    let old = c.may_open.new.self.kept in
    let same : old ≡ c.args.self.now.kept = ap (λ (h : Held). h.kept) c.may_open.ensures in
    let mid = c.reopen.new.self.kept in
    let appended = c.append.new.self.kept in
    let new = c.write_anew_if_long.new.self.kept in
    let stored : IsStored mid c.args.entries.now appended = search rules in
    let left : new.left ≡ appended.left = same_left appended new c.write_anew_if_long.ensures.kept in
    behind_same old c.args.self.now.kept new.left journal c.args.entries.now same is
    (subst (λ l. HasLeft old.left l old.journal (old.journal ++ c.args.entries.now)) (sym left) (of_both old mid appended c.args.entries.now c.in_ok-reopen.ensures.ok stored))

pub returns-in_err-reopen-clause-refused : goal.returns-in_err-reopen-clause-refused
returns-in_err-reopen-clause-refused g c = λ journal is.
    on_err c.from_residual.result (ap (λ (k : Kept). k.journal) c.in_err-reopen.ensures.err ∙ ap (λ (h : Held). h.kept.journal) c.may_open.ensures ∙ is)

pub returns-in_err-reopen-clause-opened : goal.returns-in_err-reopen-clause-opened
returns-in_err-reopen-clause-opened g c = λ is_open front. ap (λ (k : Kept). k.opened) c.in_err-reopen.ensures.err ∙ ap (λ (h : Held). h.kept.opened) c.may_open.ensures

pub returns-then-is_empty-clause-stored : goal.returns-then-is_empty-clause-stored
returns-then-is_empty-clause-stored g c = λ journal is.
    nothing_behind c.args.self.now.kept c.may_open.new.self.kept c.reopen.new.self.kept journal c.args.entries.now (ap (λ (h : Held). h.kept) c.may_open.ensures) is c.in_ok-reopen.ensures.ok (is_nothing c.args.entries.now c.if-is_empty.ensures)

pub returns-then-is_empty-clause-durable : goal.returns-then-is_empty-clause-durable
returns-then-is_empty-clause-durable g c = λ journal is.
    leaves_alone c.reopen.new.self.kept (journal ++ c.args.entries.now) c.in_ok-reopen.ensures.durable
    (nothing_behind c.args.self.now.kept c.may_open.new.self.kept c.reopen.new.self.kept journal c.args.entries.now (ap (λ (h : Held). h.kept) c.may_open.ensures) is c.in_ok-reopen.ensures.ok (is_nothing c.args.entries.now c.if-is_empty.ensures))

pub returns-in_default-clause-refused : goal.returns-in_default-clause-refused
returns-in_default-clause-refused g c = λ journal is.
    stays c.args.self.now.kept c.may_open.new.self.kept c.reopen.new.self.kept journal c.args.entries.now (ap (λ (h : Held). h.kept) c.may_open.ensures) is c.in_ok-reopen.ensures.ok

pub returns-in_default-clause-opened : goal.returns-in_default-clause-opened
returns-in_default-clause-opened g c = λ is_open front.
    let was : c.reopen.new.self ≡ c.args.self.now = c.reopen.ensures.same (ap (λ (h : Held). h.is_open) c.may_open.ensures ∙ is_open) ∙ c.may_open.ensures in
    ap (λ (h : Held). h.kept.opened) was

pub returns-in_err-append-clause-refused : goal.returns-in_err-append-clause-refused
returns-in_err-append-clause-refused g c = λ journal is.
    on_err c.from_residual-in_err-append.result (journal_asked c.reopen.new.self.kept c.append.new.self.kept c.args.entries.now c.in_err-append.ensures.err
    ∙ stays c.args.self.now.kept c.may_open.new.self.kept c.reopen.new.self.kept journal c.args.entries.now (ap (λ (h : Held). h.kept) c.may_open.ensures) is c.in_ok-reopen.ensures.ok)

pub returns-in_err-append-clause-opened : goal.returns-in_err-append-clause-opened
returns-in_err-append-clause-opened g c = λ is_open front.
    let was : c.reopen.new.self ≡ c.args.self.now = c.reopen.ensures.same (ap (λ (h : Held). h.is_open) c.may_open.ensures ∙ is_open) ∙ c.may_open.ensures in
    opened_asked c.reopen.new.self.kept c.append.new.self.kept c.args.entries.now c.in_err-append.ensures.err ∙ ap (λ (h : Held). h.kept.opened) was

pub returns-clause-stored : goal.returns-clause-stored
returns-clause-stored g c = λ journal is.
    stands_behind c.args.self.now.kept c.may_open.new.self.kept c.reopen.new.self.kept journal c.args.entries.now (ap (λ (h : Held). h.kept) c.may_open.ensures) is c.in_ok-reopen.ensures.ok
    c.append.new.self.kept c.write_anew_if_long.new.self.kept c.in_ok-append.ensures.ok c.write_anew_if_long.ensures.kept

pub returns-clause-durable : goal.returns-clause-durable
returns-clause-durable g c = λ journal is.
    leaves_both c.args.self.now.kept c.may_open.new.self.kept c.reopen.new.self.kept journal c.args.entries.now (ap (λ (h : Held). h.kept) c.may_open.ensures) is c.in_ok-reopen.ensures.ok
    c.append.new.self.kept c.write_anew_if_long.new.self.kept c.in_ok-append.ensures.ok c.write_anew_if_long.ensures.kept

pub returns-clause-opened : goal.returns-clause-opened
returns-clause-opened g c = λ is_open front.
    let was : c.reopen.new.self ≡ c.args.self.now = c.reopen.ensures.same (ap (λ (h : Held). h.is_open) c.may_open.ensures ∙ is_open) ∙ c.may_open.ensures in
    ap (λ (k : Kept). k.opened) (c.write_anew_if_long.ensures.same (front ∙ sym (c.append.ensures.front ∙ ap (λ (h : Held). h.front) was)))
    ∙ ap (λ (k : Kept). k.opened) c.in_ok-append.ensures.ok ∙ ap (λ (h : Held). h.kept.opened) was

pub returns-clause-bounded : goal.returns-clause-bounded
returns-clause-bounded g c = λ _. c.write_anew_if_long.ensures.bounded

pub returns-clause-limit : goal.returns-clause-limit
returns-clause-limit g c = λ is_open.
    let was : c.reopen.new.self ≡ c.args.self.now = c.reopen.ensures.same (ap (λ (h : Held). h.is_open) c.may_open.ensures ∙ is_open) ∙ c.may_open.ensures in
    next_limit c.args.self.now c.reopen.new.self c.append.new.self c.write_anew_if_long.new.self was c.append.ensures.limit.0 c.append.ensures.limit.1 c.write_anew_if_long.ensures.limit

pub returns-then-not-may_take-clause-crash : goal.returns-then-not-may_take-clause-crash
returns-then-not-may_take-clause-crash g c = λ journal is.
    let old = c.may_open.new.self.kept in
    let same : old ≡ c.args.self.now.kept = ap (λ (h : Held). h.kept) c.may_open.ensures in
    let new = c.reopen.new.self.kept in
    behind_same old c.args.self.now.kept new.left journal c.args.entries.now same is (of_both old new new c.args.entries.now c.in_ok-reopen.ensures.ok (inl refl))

pub returns-then-not-may_take-clause-refused : goal.returns-then-not-may_take-clause-refused
returns-then-not-may_take-clause-refused g c = λ journal is.
    stays c.args.self.now.kept c.may_open.new.self.kept c.reopen.new.self.kept journal c.args.entries.now (ap (λ (h : Held). h.kept) c.may_open.ensures) is c.in_ok-reopen.ensures.ok

pub returns-then-not-may_take-clause-opened : goal.returns-then-not-may_take-clause-opened
returns-then-not-may_take-clause-opened g c = λ is_open front.
    let was : c.reopen.new.self ≡ c.args.self.now = c.reopen.ensures.same (ap (λ (h : Held). h.is_open) c.may_open.ensures ∙ is_open) ∙ c.may_open.ensures in
    ap (λ (h : Held). h.kept.opened) was
