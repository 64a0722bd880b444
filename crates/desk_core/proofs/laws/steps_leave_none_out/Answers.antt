use Rattle.desk_core.proofs.WatchLemmas.{step_tells}
use Rattle.desk_core.proofs.laws.steps_leave_none_out.Goals as goal

pub returns : goal.returns
returns c = record {
  none = λ changes watch. (step_tells changes watch.slot watch.start watch.cursor).none;
  some = λ changes watch. (step_tells changes watch.slot watch.start watch.cursor).some;
  first = λ changes watch. (step_tells changes watch.slot watch.start watch.cursor).first;
}
