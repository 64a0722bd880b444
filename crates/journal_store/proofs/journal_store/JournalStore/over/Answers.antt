use Rattle.std.proofs.Common.{◌∙◌, List, ap, refl}
use Rattle.record_log.specs.Log.{texts}
use Rattle.entry_record.specs.declared.stored.Stored.{Stored}
use Rattle.journal_store.specs.Kept.{Kept, begun_at, opened_at}
use Rattle.journal_store.specs.Record.{restored_of}
use Rattle.journal_store.specs.declared.record_fault.RecordFault.TheVariants.{NotAnEntry, Preface, TooFew}
use Rattle.journal_store.proofs.KeptLemmas.{holds_at}
use Rattle.journal_store.proofs.FaultLemmas.{is_faulty, not_by_entry, not_by_few, not_by_preface, told_on}
use Rattle.journal_store.proofs.FaithfulLemmas.{begins}
use Rattle.journal_store.proofs.journal_store.JournalStore.over.Goals as goal

pub invariant_of-store : goal.invariant_of-store
invariant_of-store g c =
    let D = g.M.Device.Device in
    let records = texts c.args.found.now in
    let stored = c.in_ok-preface.stored.items in
    let front = c.in_ok-preface.preface in
    let file = c.in_ok-written.written.items in
    let is = c.in_ok-written.ensures in
    let cut = rw (c.len.ensures, c.in_ok-written.written.ok.0) at c.truncate.ensures.items in
    let at = c.opened-told.ensures ∙ ap (λ (k : Kept). opened_at k (g.M.Device.Device.moment c.args.log.device)) c.and.ensures
    ∙ ap (λ (l : List Stored). begun_at (g.M.Device.Device.moment c.args.log.device) c.in_ok-preface.preface (restored_of l)) c.deref.ensures.value in
    let enough = c.in_ok-preface.ensures.enough in
    begins D.contents D.may_leave D.moment D.left_since g.met.M.Device.Device.only_now c.args.log front records stored file _ _ c.requires.ready c.in_ok-preface.ensures.fits c.in_ok-preface.ensures.read enough is cut refl at

pub returns-clause-read : goal.returns-clause-read
returns-clause-read g c = c.in_ok-preface.ensures.read

pub returns-clause-new : goal.returns-clause-new
returns-clause-new g c = c.in_ok-preface.ensures.new

pub returns-clause-kept : goal.returns-clause-kept
returns-clause-kept g c =
    c.opened-told.ensures ∙ ap (λ (k : Kept). opened_at k (g.M.Device.Device.moment c.args.log.device)) c.and.ensures
    ∙ ap (λ (l : List Stored). begun_at (g.M.Device.Device.moment c.args.log.device) c.in_ok-preface.preface (restored_of l)) c.deref.ensures.value

pub returns-in_err-preface-clause-fault : goal.returns-in_err-preface-clause-fault
returns-in_err-preface-clause-fault g c = λ n is.
    c.read_found.ensures.fault n (told_on c.read_found.result c.from_residual.result c.in_err-preface.field-0.0 (NotAnEntry n) c.in_err-preface.was c.from_residual.ensures.1 is)

pub returns-in_err-preface-clause-preface : goal.returns-in_err-preface-clause-preface
returns-in_err-preface-clause-preface g c = λ fault is.
    is_faulty c.read_found.result (texts c.args.found.now) fault c.read_found.ensures.none c.read_found.ensures.cut_short
    (told_on c.read_found.result c.from_residual.result c.in_err-preface.field-0.0 (Preface fault) c.in_err-preface.was c.from_residual.ensures.1 is)

pub returns-in_err-preface-clause-too_few : goal.returns-in_err-preface-clause-too_few
returns-in_err-preface-clause-too_few g c = λ is.
    c.read_found.ensures.too_few (told_on c.read_found.result c.from_residual.result c.in_err-preface.field-0.0 (TooFew) c.in_err-preface.was c.from_residual.ensures.1 is)

pub returns-in_err-written-clause-fault : goal.returns-in_err-written-clause-fault
returns-in_err-written-clause-fault g c = λ n is. not_by_entry c.from_residual-in_err-written.result c.from_residual-in_err-written.ensures.1 n is

pub returns-in_err-written-clause-preface : goal.returns-in_err-written-clause-preface
returns-in_err-written-clause-preface g c = λ fault is. not_by_preface c.from_residual-in_err-written.result c.from_residual-in_err-written.ensures.1 fault is

pub returns-in_err-written-clause-too_few : goal.returns-in_err-written-clause-too_few
returns-in_err-written-clause-too_few g c = λ is. not_by_few c.from_residual-in_err-written.result c.from_residual-in_err-written.ensures.1 is

pub returns-clause-holds : goal.returns-clause-holds
returns-clause-holds g c =
    holds_at (g.M.Device.Device.moment c.args.log.device) c.in_ok-preface.preface (restored_of c.in_ok-preface.stored.items) c.opened-told.result.kept
    (c.opened-told.ensures ∙ ap (λ (k : Kept). opened_at k (g.M.Device.Device.moment c.args.log.device)) c.and.ensures
    ∙ ap (λ (l : List Stored). begun_at (g.M.Device.Device.moment c.args.log.device) c.in_ok-preface.preface (restored_of l)) c.deref.ensures.value)
