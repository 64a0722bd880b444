use Rattle.std.proofs.Common.{◌<◌, ◌∙◌, Err, length, arith, ap}
use Rattle.journal_store.specs.Preface.{Front}
use Rattle.journal_store.specs.declared.preface_fault.PrefaceFault.TheVariants as prefaces
use Rattle.journal_store.specs.declared.record_fault.RecordFault.TheVariants.{NotAnEntry, Preface, TooFew}
use Rattle.journal_store.proofs.FaultLemmas.{told_of_few, told_of_no_entry, told_of_preface, told_on}
use Rattle.journal_store.proofs.FoundLemmas.{found_read, found_short, is_something, nothing_read, nothing_short, too_few, within_found}
use Rattle.journal_store.proofs.reading.read_found.Goals as goal

pub returns-in-Ok-clause-read : goal.returns-in-Ok-clause-read
returns-in-Ok-clause-read c = found_read c.in-Ok.preface c.args.found.now c.in-Ok.taken c.in_ok-stored-in-Ok.stored.items c.in-Ok.ensures.read c.in_ok-stored-in-Ok.ensures.read

pub returns-in-Ok-clause-short : goal.returns-in-Ok-clause-short
returns-in-Ok-clause-short c = found_short c.in-Ok.preface c.args.found.now c.in-Ok.taken c.in-Ok.ensures.read c.in_ok-stored-in-Ok.ensures.short

pub returns-then-len-from-clause-too_few : goal.returns-then-len-from-clause-too_few
returns-then-len-from-clause-too_few c = λ is.
    let missing : length c.in_ok-stored-in-Ok.stored.items < c.in-Ok.preface.condensed = omega arith in
    too_few c.in-Ok.preface c.args.found.now c.in-Ok.taken c.in_ok-stored-in-Ok.stored.items c.in-Ok.ensures.read c.in_ok-stored-in-Ok.ensures.read missing

pub returns-then-is_empty-clause-read : goal.returns-then-is_empty-clause-read
returns-then-is_empty-clause-read c = nothing_read c.args.found.now c.renewed.result c.new.result.items c.if-is_empty.ensures c.new.ensures.items

pub returns-then-is_empty-clause-short : goal.returns-then-is_empty-clause-short
returns-then-is_empty-clause-short c = nothing_short c.args.found.now c.if-is_empty.ensures

pub returns-then-is_empty-clause-new : goal.returns-then-is_empty-clause-new
returns-then-is_empty-clause-new c = λ _. c.renewed.ensures.new

pub returns-then-is_empty-clause-enough : goal.returns-then-is_empty-clause-enough
returns-then-is_empty-clause-enough c = omega (arith, ap (λ (front : Front). front.condensed) c.renewed.ensures.new)

pub returns-in-Ok-clause-fits : goal.returns-in-Ok-clause-fits
returns-in-Ok-clause-fits c = c.in-Ok.ensures.read.is

pub returns-in-Ok-clause-new : goal.returns-in-Ok-clause-new
returns-in-Ok-clause-new c = λ none. absurd (is_something c.args.found.now c.if-is_empty.ensures none)

pub returns-in-Ok-clause-enough : goal.returns-in-Ok-clause-enough
returns-in-Ok-clause-enough c = omega arith

pub returns-in_err-stored-in-Ok-clause-fault : goal.returns-in_err-stored-in-Ok-clause-fault
returns-in_err-stored-in-Ok-clause-fault c = λ n is.
    c.read_behind.ensures.fault n (told_on c.read_behind.result c.from_residual.result c.in_err-stored-in-Ok.field-0.0 (NotAnEntry n) c.in_err-stored-in-Ok.was c.from_residual.ensures.1 is)

pub returns-in_err-stored-in-Ok-clause-none : goal.returns-in_err-stored-in-Ok-clause-none
returns-in_err-stored-in-Ok-clause-none c = λ is.
    absurd (c.read_behind.ensures.no_other prefaces.NoPreface (told_on c.read_behind.result c.from_residual.result c.in_err-stored-in-Ok.field-0.0 (Preface prefaces.NoPreface) c.in_err-stored-in-Ok.was c.from_residual.ensures.1 is))

pub returns-in_err-stored-in-Ok-clause-cut_short : goal.returns-in_err-stored-in-Ok-clause-cut_short
returns-in_err-stored-in-Ok-clause-cut_short c = λ is.
    absurd (c.read_behind.ensures.no_other prefaces.CutShort (told_on c.read_behind.result c.from_residual.result c.in_err-stored-in-Ok.field-0.0 (Preface prefaces.CutShort) c.in_err-stored-in-Ok.was c.from_residual.ensures.1 is))

pub returns-in_err-stored-in-Ok-clause-too_few : goal.returns-in_err-stored-in-Ok-clause-too_few
returns-in_err-stored-in-Ok-clause-too_few c = λ is.
    absurd (c.read_behind.ensures.no_few (told_on c.read_behind.result c.from_residual.result c.in_err-stored-in-Ok.field-0.0 (TooFew) c.in_err-stored-in-Ok.was c.from_residual.ensures.1 is))

pub read_behind-requires : goal.read_behind-requires
read_behind-requires c = within_found c.in-Ok.preface c.args.found.now c.in-Ok.taken c.in-Ok.ensures.read

pub returns-clause-fault : goal.returns-clause-fault
returns-clause-fault c = λ n is. told_of_no_entry c.in-Err.fault c.into.result c.into.ensures n is

pub returns-clause-none : goal.returns-clause-none
returns-clause-none c = λ is.
    c.read_preface.ensures.none (c.in-Err.is ∙ ap (λ fault. Err fault) (told_of_preface c.in-Err.fault c.into.result c.into.ensures prefaces.NoPreface is))

pub returns-clause-cut_short : goal.returns-clause-cut_short
returns-clause-cut_short c = λ is.
    c.read_preface.ensures.cut_short (c.in-Err.is ∙ ap (λ fault. Err fault) (told_of_preface c.in-Err.fault c.into.result c.into.ensures prefaces.CutShort is))

pub returns-clause-too_few : goal.returns-clause-too_few
returns-clause-too_few c = λ is. told_of_few c.in-Err.fault c.into.result c.into.ensures is
