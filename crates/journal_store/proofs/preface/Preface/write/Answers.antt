use Rattle.std.proofs.Common.{rules, arith, ◌≡◌}
use Rattle.std.proofs.lemmas.Grind.{common_steps}
use Rattle.record_log.specs.Log.{texts}
use Rattle.journal_store.specs.Preface.{preface_of}
use Rattle.journal_store.proofs.PrefaceLemmas.{preface_short}
use Rattle.journal_store.proofs.preface.Preface.write.Goals as goal

pub returns-clause-short : goal.returns-clause-short
returns-clause-short c =
    let records = c.put_copies.new.records.items in
    let is : texts records ≡ preface_of c.args.self.now = grind (arith, common_steps) in
    preface_short records c.args.self.now is (search rules)
