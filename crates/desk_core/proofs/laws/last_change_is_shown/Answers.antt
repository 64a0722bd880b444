use Rattle.desk_core.proofs.ToldLemmas.{last_is_shown}
use Rattle.desk_core.proofs.laws.last_change_is_shown.Goals as goal

pub returns : goal.returns
returns c = last_is_shown
