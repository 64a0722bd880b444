use Rattle.script.specs.Line.IsLine.{StepLine}
use Rattle.script.proofs.line.step_line.Goals as goal

pub returns : goal.returns
returns c = λ names. StepLine _ _ c.in_ok-number_of.ensures
