use Rattle.std.proofs.Common.{rules, arith, ◌≡◌, []}
use Rattle.std.proofs.lemmas.Grind.{common_steps}
use Rattle.record_log.specs.Log.{texts}
use Rattle.record_log.proofs.BeginningLemmas.{ended, one_more}
use Rattle.record_log.proofs.beginning.begins.Goals as goal

pub returns-in_default : goal.returns-in_default
returns-in_default c = λ yes.
    let none : c.loop-entry.rest.now ≡ [] = grind (arith, common_steps, yes, c.is_empty.ensures) in
    ended c.args.bytes.now c.loop-entry.rest.now (texts c.args.entries.now) c.loop-entry.entry-index c.loop-entry.invariant none

pub loop-entry-preserved : goal.loop-entry-preserved
loop-entry-preserved c =
    let same : c.in-Some.found.now ≡ c.entry-item.result.items = search rules in
    let is = c.in-Some.ensures.some in
    one_more c.args.bytes.now c.args.entries.now c.loop-entry.entry-index c.entry-item.result c.loop-entry.rest.now c.in-Some.found.now c.in-Some.behind.now c.loop-entry-test.true c.entry-item.is c.loop-entry.invariant (rw (c.in-Some.found-is, c.in-Some.behind-is) is) same
