use Rattle.std.proofs.Common.{arith, ◌≡◌, ◌∙◌}
use Rattle.std.proofs.lemmas.List.{take_all}
use Rattle.record_log.specs.Log.{texts}
use Rattle.journal_store.proofs.PrefaceLemmas.{catalogue_front}
use Rattle.journal_store.proofs.preface.Preface.new.Goals as goal

pub invariant_of-result : goal.invariant_of-result
invariant_of-result c =
    let catalogue = c.args.catalogue.now in
    let all : texts c.loop-number.names.items ≡ catalogue = c.loop-number.invariant ∙ take_all c.loop-number.number catalogue (omega arith) in
    catalogue_front c.loop-number.names.items catalogue all c.len-number-end.ensures.lawful
