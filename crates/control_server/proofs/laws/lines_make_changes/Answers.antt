use Rattle.control_server.proofs.MadeLemmas.{lines_make}
use Rattle.control_server.proofs.laws.lines_make_changes.Goals as goal

pub returns : goal.returns
returns c = lines_make
