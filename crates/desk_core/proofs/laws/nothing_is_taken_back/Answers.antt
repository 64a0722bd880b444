use Rattle.desk_core.proofs.TakenBackLemmas.{taken_back}
use Rattle.desk_core.proofs.laws.nothing_is_taken_back.Goals as goal

pub returns : goal.returns
returns c = λ old new calls results answered holds. taken_back old new calls results answered holds
