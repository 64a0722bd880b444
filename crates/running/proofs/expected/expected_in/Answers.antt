use Rattle.running.proofs.ExpectedLemmas.{expected_so, nothing_so}
use Rattle.running.proofs.expected.expected_in.Goals as goal

pub returns-in-Ok-clause-expected : goal.returns-in-Ok-clause-expected
returns-in-Ok-clause-expected c = expected_so c.args.bytes.now c.in-Ok.script c.expected_by.result c.in-Ok.ensures.ok c.expected_by.ensures.expected

pub returns-in-Err-clause-expected : goal.returns-in-Err-clause-expected
returns-in-Err-clause-expected c = nothing_so c.args.bytes.now c.in-Err.fault c.nothing.result c.in-Err.ensures.fault c.nothing.ensures.none
