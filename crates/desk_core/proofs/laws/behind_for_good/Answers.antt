use Rattle.desk_core.proofs.KeptLemmas.{stays_behind}
use Rattle.desk_core.proofs.laws.behind_for_good.Goals as goal

pub returns : goal.returns
returns c = stays_behind
