use Rattle.desk_core.proofs.LawLemmas.{legal_front}
use Rattle.desk_core.proofs.laws.legal_fronts.Goals as goal

pub returns : goal.returns
returns c = legal_front
