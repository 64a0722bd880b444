use Rattle.std.proofs.Common.{[]}
use Rattle.web_call.proofs.call.asking.starved.Goals as goal

pub returns-clause-goes : goal.returns-clause-goes
returns-clause-goes c = c.new.ensures.goes [] c.none.ensures
