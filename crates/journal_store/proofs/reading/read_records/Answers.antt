use Rattle.std.proofs.Common.{arith, ℕ, Vec, ◌≡◌, ◌<◌, ◌+◌, length, subst, sym, ◌∙◌, take}
use Rattle.std.specs.Prelude.{All}
use Rattle.std.specs.declared.alloc.Global.{Global}
use Rattle.std.proofs.lemmas.List.{length-map, take_all}
use Rattle.record_log.specs.Log.{texts}
use Rattle.journal_store.specs.Read.{AreRead}
use Rattle.journal_store.proofs.FoundLemmas.{no_entry_at}
use Rattle.journal_store.proofs.ReadLemmas.{one_read, one_short}
use Rattle.journal_store.proofs.reading.read_records.Goals as goal

pub loop-number-preserved : goal.loop-number-preserved
loop-number-preserved c =
    let at = c.index-found-number.result in
    let one = c.in-Some.field-0 in
    let found = c.args.found.now in
    let whole = sym c.deref.ensures.value ∙ c.in-Some.ensures.some.1 in
    let grown = c.in_ok-keep-in-Some.ensures in
    record {
      read = subst (λ l. AreRead (take (c.loop-number.number + 1) (texts found)) l) (sym grown)
          (one_read found c.loop-number.number at c.loop-number.stored.items one c.loop-number-test.true c.index-found-number.is c.in-Some.ensures.some.0 whole c.loop-number.invariant.read);
      short = one_short found c.loop-number.number at c.loop-number.stored.items one c.loop-number-test.true c.index-found-number.is c.in-Some.ensures.some.0 whole c.loop-number.invariant.short;
    }

pub returns-clause-short : goal.returns-clause-short
returns-clause-short c = subst (All (λ bytes. length bytes.items < 256)) (take_all c.loop-number.number c.args.found.now (omega (arith, c.loop-number-test.false))) c.loop-number.invariant.short

pub returns-clause-read : goal.returns-clause-read
returns-clause-read c =
    subst (λ l. AreRead l c.loop-number.stored.items)
    (take_all c.loop-number.number (texts c.args.found.now) (omega (arith, c.loop-number-test.false, length-map c.args.found.now (λ (e : Vec ℕ Global). e.items)))) c.loop-number.invariant.read

pub returns-in-None-clause-fault : goal.returns-in-None-clause-fault
returns-in-None-clause-fault c = λ n is.
    let same : c.loop-number.number ≡ n = cc in
    no_entry_at c.args.found.now c.loop-number.number n c.index-found-number.result c.deref.result.now c.loop-number-test.true c.index-found-number.is c.deref.ensures.value same c.in-None.ensures.none
