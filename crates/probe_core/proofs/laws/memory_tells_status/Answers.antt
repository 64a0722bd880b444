use Rattle.probe_core.proofs.EventLemmas.{memory_opens, memory_more, memory_tells, memory_unknown, range_counts}
use Rattle.probe_core.proofs.laws.memory_tells_status.Goals as goal

pub returns-clause-opening : goal.returns-clause-opening
returns-clause-opening c = memory_opens

pub returns-clause-next : goal.returns-clause-next
returns-clause-next c = memory_more

pub returns-clause-status : goal.returns-clause-status
returns-clause-status c = memory_tells

pub returns-clause-unknown : goal.returns-clause-unknown
returns-clause-unknown c = memory_unknown

pub returns-clause-in_range : goal.returns-clause-in_range
returns-clause-in_range c = range_counts
