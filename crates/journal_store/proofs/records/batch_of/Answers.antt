use Rattle.std.proofs.Common.{arith}
use Rattle.record_log.specs.Log.{texts}
use Rattle.journal_store.proofs.RecordLemmas.{added_behind, added_first, as_many_first, short_first}
use Rattle.journal_store.proofs.records.batch_of.Goals as goal

pub returns-then-not-is_empty-clause-added : goal.returns-then-not-is_empty-clause-added
returns-then-not-is_empty-clause-added g c = added_behind c.args.preface.now c.args.written.now (texts c.in_ok-records.records.items) c.args.entries.now c.if-not-is_empty.ensures c.in_ok-records.ensures.of

pub returns-then-not-is_empty-clause-some : goal.returns-then-not-is_empty-clause-some
returns-then-not-is_empty-clause-some g c = omega (arith, c.in_ok-records.ensures.as_many)

pub returns-clause-added : goal.returns-clause-added
returns-clause-added g c = added_first c.in_ok-batch.batch.items c.in_ok-records.records.items c.append.new.self.items c.in_ok-append.ensures.items c.args.preface.now c.args.written.now c.args.entries.now c.if-not-is_empty.ensures c.in_ok-batch.ensures.records c.in_ok-records.ensures.of

pub returns-clause-short : goal.returns-clause-short
returns-clause-short g c = short_first c.in_ok-batch.batch.items c.in_ok-records.records.items c.append.new.self.items c.in_ok-append.ensures.items c.in_ok-batch.ensures.short c.in_ok-records.ensures.short

pub returns-clause-some : goal.returns-clause-some
returns-clause-some g c = as_many_first c.in_ok-batch.batch.items c.in_ok-records.records.items c.append.new.self.items c.in_ok-append.ensures.items c.args.entries.now c.in_ok-records.ensures.as_many
