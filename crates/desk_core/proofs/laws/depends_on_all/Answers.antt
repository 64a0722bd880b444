use Rattle.desk_core.proofs.LawLemmas.{depends_on}
use Rattle.desk_core.proofs.laws.depends_on_all.Goals as goal

pub returns : goal.returns
returns c = depends_on
