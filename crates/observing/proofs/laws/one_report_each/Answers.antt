use Rattle.observing.proofs.LookoutLemmas.{one_report}
use Rattle.observing.proofs.laws.one_report_each.Goals as goal

pub returns : goal.returns
returns c = one_report
