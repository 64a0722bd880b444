use Rattle.std.proofs.Common.{◌-◌, ◌+◌, ◌≤◌, List, [], length, take, arith, subst}
use Rattle.desk_core.specs.declared.entry.Entry.{Entry}
use Rattle.desk_core.specs.Legal.{IsLegal}
use Rattle.desk_core.specs.Past.{past}
use Rattle.journal_store.specs.Alike.{AreAlike}
use Rattle.entry_record.specs.declared.stored.Stored.{Stored}
use Rattle.record_log.specs.Log.{texts}
use Rattle.journal_store.specs.Record.{AreAdded, restored_of}
use Rattle.journal_store.specs.Standing.{IsNext}
use Rattle.journal_store.proofs.FoundLemmas.{copied_short}
use Rattle.journal_store.proofs.HoldLemmas.{hold_anew}
use Rattle.journal_store.proofs.shortening.shorten.Goals as goal

pub returns-clause-holds : goal.returns-clause-holds
returns-clause-holds c = λ start journal hold.
    let front = c.args.preface.now in
    let names = c.names.result.now in
    let stored = c.in-Ok.stored.items in
    let n = c.in_ok-count.count in
    let next = c.in_ok-condensed.condensed.preface in
    let short = c.in_ok-condensed.condensed.short.items in
    let batch = c.in-Ok-batch_of.records.items in
    let value = c.deref.ensures.value in
    let is = subst (λ (l : List Stored). IsNext front next (restored_of (take n l)) short) value c.in_ok-condensed.ensures.next in
    let legal = subst (λ (l : List Stored). IsLegal (past (restored_of (take n l)))) value c.in_ok-condensed.ensures.legal in
    let alike = subst (λ (l : List Stored). AreAlike (past short) (past (restored_of (take n l)))) value c.in_ok-condensed.ensures.alike in
    let added = subst (λ (l : List Entry). AreAdded next [] (texts batch) l) c.deref-2.ensures.value c.in-Ok-batch_of.ensures.added in
    let few : n ≤ length stored = omega arith in
    let enough : front.condensed ≤ n = omega arith in
    hold_anew start front next c.in_ok-condensed.ensures.fits c.args.found.now batch c.put_copies.new.records.items names stored n short journal c.names.ensures c.in-Ok.ensures.read c.in-Ok.ensures.many few enough is legal alike added
    c.in-Ok-put_copies.ensures.names hold

pub returns-clause-short : goal.returns-clause-short
returns-clause-short c =
    let found = c.args.found.now in
    let title = length c.names.result.now + 1 in
    let n = c.in_ok-count.count in
    copied_short found c.in-Ok-batch_of.records.items c.put_copies.new.records.items title n (length found - (title + n)) c.in-Ok-batch_of.ensures.short c.in-Ok.ensures.short c.in-Ok-put_copies.ensures.names
