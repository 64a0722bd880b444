use Rattle.desk_core.proofs.ReasonLemmas.{reason_tells}
use Rattle.desk_core.proofs.laws.reasons_tell_statuses.Goals as goal

pub returns : goal.returns
returns c = λ kept entries i few. reason_tells kept entries i few
