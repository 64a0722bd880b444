use Rattle.std.proofs.Common.{◌∙◌, ap}
use Rattle.std.proofs.lemmas.List.{take_all}
use Rattle.journal_store.specs.Record.{restored_of}
use Rattle.durable.proofs.JournalLemmas.{restored_more}
use Rattle.durable.proofs.journal.entries_of.Goals as goal

pub loop-one-preserved : goal.loop-one-preserved
loop-one-preserved c =
    restored_more c.args.stored.now c.loop-one.one-index c.one-item.result c.loop-one.entries.items c.push.new.self.items c.loop-one-test.true c.one-item.is c.loop-one.invariant
    c.in_ok-push.ensures.items

pub returns : goal.returns
returns c = c.loop-one.invariant ∙ ap restored_of (take_all c.loop-one.one-index c.args.stored.now c.loop-one-test.false)
