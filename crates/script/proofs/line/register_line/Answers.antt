use Rattle.script.specs.Line.IsLine.{RegisterLine}
use Rattle.script.proofs.line.register_line.Goals as goal

pub returns-in_ok-read_name-in-Some : goal.returns-in_ok-read_name-in-Some
returns-in_ok-read_name-in-Some c = rw c.in_ok-read_name-in-Some.ensures (RegisterLine _ _ _ c.in-Some.ensures)
