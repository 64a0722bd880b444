use Rattle.desk_core.proofs.LawLemmas.{legal_grown}
use Rattle.desk_core.proofs.laws.legal_growth.Goals as goal

pub returns : goal.returns
returns c = legal_grown
