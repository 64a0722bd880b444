use Rattle.script.proofs.ComplaintLemmas.{expectation_runs, line_runs}
use Rattle.script.proofs.complaint.may_run.Goals as goal

pub returns-then-is_some : goal.returns-then-is_some
returns-then-is_some c = expectation_runs _ _ c.in_ok-next_expectation.field-0 _ c.in_ok-next_expectation.ensures c.is_some.ensures c.if-is_some.true

pub returns : goal.returns
returns c = line_runs _ _ c.in_ok-next_expectation.field-0 c.in_ok-line.line _ _ c.in_ok-next_expectation.ensures c.is_some.ensures c.if-is_some.false c.in_ok-line.ensures c.is_some-2.ensures
