use Rattle.server.proofs.CrewServerLemmas.{not_missing}
use Rattle.server.proofs.crew_server.serve.Goals as goal

pub returns-in-Err-clause-missing : goal.returns-in-Err-clause-missing
returns-in-Err-clause-missing g c = λ is. absurd (not_missing c.in-Err.fault.why c.from.result c.from.ensures (cc is))
