use Rattle.watchdog.proofs.FailLemmas.{step_is_due}
use Rattle.watchdog.proofs.laws.fails_are_due.Goals as goal

pub returns : goal.returns
returns c = λ kept now guard guard_now old new step. step_is_due kept now guard old guard_now new step
