use Rattle.control_server.proofs.MadeLemmas.{reports_find}
use Rattle.control_server.proofs.laws.reports_tell_findings.Goals as goal

pub returns : goal.returns
returns c = reports_find
