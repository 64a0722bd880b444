use Rattle.live_run.proofs.SetupLines as law
use Rattle.live_run.proofs.laws.results_in_place.Goals as goal

pub returns : goal.returns
returns c = law.results_in_place
