use Rattle.desk_core.proofs.LawLemmas.{by_events}
use Rattle.desk_core.proofs.laws.events_decide.Goals as goal

pub returns : goal.returns
returns c = by_events
