use Rattle.probe_core.proofs.EventLemmas.{rise_of_one}
use Rattle.probe_core.proofs.laws.plain_threshold.Goals as goal

pub returns : goal.returns
returns c = rise_of_one
