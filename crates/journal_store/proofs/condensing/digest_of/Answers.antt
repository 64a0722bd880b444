use Rattle.std.proofs.Common.{◌+◌, ◌<◌, ◌∷◌, List, length, take, sym, subst, arith}
use Rattle.std.proofs.lemmas.List.{take_all, length-map, length-reverse, length-take-le}
use Rattle.desk_core.specs.declared.entry.Entry.{Entry}
use Rattle.desk_core.specs.Legal.{IsLegal}
use Rattle.desk_core.specs.Past.{past}
use Rattle.journal_store.specs.Digest.{IsDigest}
use Rattle.entry_record.specs.declared.stored.Stored.{Stored}
use Rattle.journal_store.specs.Record.{restored, restored_of}
use Rattle.journal_store.proofs.DigestedLemmas.{one_past, first_legal}
use Rattle.journal_store.proofs.condensing.digest_of.Goals as goal

pub returns-then-not-take_in-clause-none : goal.returns-then-not-take_in-clause-none
returns-then-not-take_in-clause-none c = λ legal.
    let all = c.args.stored.now in
    let n = c.loop-number.number in
    let one = c.index-stored-number.result in
    let before = past (restored_of (take n all)) in
    let more = one_past all n one c.loop-number-test.true c.index-stored-number.is in
    c.take_in.ensures.refused before c.loop-number.invariant c.if-not-take_in.true
    (subst (λ (e : Entry). IsLegal (e ∷ before)) (sym c.restored.ensures) (subst (λ (l : List Entry). IsLegal l) more (first_legal all (n + 1) legal)))

pub loop-number-preserved : goal.loop-number-preserved
loop-number-preserved c =
    let all = c.args.stored.now in
    let n = c.loop-number.number in
    let one = c.index-stored-number.result in
    let before = past (restored_of (take n all)) in
    let below : n < length all = c.loop-number-test.true in
    let more = one_past all n one below c.index-stored-number.is in
    subst (λ (l : List Entry). IsDigest c.take_in.new.self l) (sym more) (subst (λ (e : Entry). IsDigest c.take_in.new.self (e ∷ before)) c.restored.ensures
    (c.take_in.ensures.taken before c.loop-number.invariant c.if-not-take_in.false
    (omega (arith, below, length-reverse (restored_of (take n all)), length-map (take n all) restored, length-take-le n all (omega (arith, below))))))

pub returns-clause-some : goal.returns-clause-some
returns-clause-some c =
    subst (λ (l : List Stored). IsDigest c.loop-number.digest (past (restored_of l))) (take_all c.loop-number.number c.args.stored.now c.loop-number-test.false) c.loop-number.invariant
