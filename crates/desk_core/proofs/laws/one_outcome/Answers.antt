use Rattle.desk_core.proofs.OutcomeLemmas.{one_outcome}
use Rattle.desk_core.proofs.laws.one_outcome.Goals as goal

pub returns : goal.returns
returns c = λ most seat before after other call result another a b. one_outcome a b
