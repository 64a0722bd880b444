use Rattle.desk_core.proofs.WatchLemmas.{front_stays}
use Rattle.desk_core.proofs.laws.changes_grow.Goals as goal

pub returns : goal.returns
returns c = front_stays
