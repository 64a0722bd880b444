use Rattle.script.proofs.ScriptLemmas.{runs}
use Rattle.script.proofs.reading.next_expectation.Goals as goal

pub returns-in-Run : goal.returns-in-Run
returns-in-Run c = rw c.in-Run.is (runs _ _ c.read_expectation.ensures)
