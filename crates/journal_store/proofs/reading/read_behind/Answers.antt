use Rattle.std.proofs.Common.{rules, arith, ◌≡◌, ◌+◌, ◌-◌, ◌∙◌, Err, List, Vec, length, take, drop, ap, subst, ℕ}
use Rattle.std.specs.declared.alloc.Global.{Global}
use Rattle.std.proofs.lemmas.List.{take_all, length-drop, length-map}
use Rattle.record_log.specs.Log.{texts}
use Rattle.journal_store.specs.Read.{IsNoEntry}
use Rattle.journal_store.specs.declared.record_fault.RecordFault.TheVariants.{NotAnEntry}
use Rattle.journal_store.proofs.FoundLemmas.{none_behind}
use Rattle.journal_store.proofs.ReadLemmas.{read_many}
use Rattle.journal_store.proofs.reading.read_behind.Goals as goal

pub returns-in-NotAnEntry-clause-fault : goal.returns-in-NotAnEntry-clause-fault
returns-in-NotAnEntry-clause-fault c = λ n is.
    let taken = c.args.taken in
    let found = c.args.found.now in
    let number = c.in-NotAnEntry.number in
    let at : taken + number ≡ n = search rules in
    let was : c.read_records.result ≡ Err (NotAnEntry number) = c.in-Err.is ∙ ap (λ f. Err f) c.in-NotAnEntry.is in
    let all : take (length found - taken) (drop taken found) ≡ drop taken found = take_all (length found - taken) (drop taken found) (omega (arith, length-drop taken found)) in
    subst (IsNoEntry (texts found)) at (none_behind found taken number (subst (λ (l : List (Vec ℕ Global)). IsNoEntry (texts l) number) all (c.read_records.ensures.fault number was)))

pub returns-in-Ok-clause-many : goal.returns-in-Ok-clause-many
returns-in-Ok-clause-many c =
    let taken = c.args.taken in
    let found = c.args.found.now in
    let rest = take (length found - taken) (drop taken found) in
    let stored = c.in-Ok.stored.items in
    let many : length (texts rest) ≡ length stored = read_many (texts rest) stored c.in-Ok.ensures.read in
    let all : length rest ≡ length found - taken = ap length (take_all (length found - taken) (drop taken found) (omega (arith, length-drop taken found))) ∙ length-drop taken found in
    omega (arith, many, all, c.requires, length-map rest (λ (e : Vec ℕ Global). e.items))
