use Rattle.script.proofs.ChangeLemmas as law
use Rattle.script.proofs.laws.changes_in_place.Goals as goal

pub returns : goal.returns
returns c = law.changes_in_place
