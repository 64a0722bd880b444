use Rattle.reactor.proofs.TalkingLemmas.{session_ends}
use Rattle.reactor.proofs.laws.sessions_end.Goals as goal

pub returns : goal.returns
returns c = session_ends
