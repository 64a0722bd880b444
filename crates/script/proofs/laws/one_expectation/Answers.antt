use Rattle.script.proofs.OneLine as law
use Rattle.script.proofs.laws.one_expectation.Goals as goal

pub returns : goal.returns
returns c = record { one = law.one_expectation_text; either = law.line_or_expectation }
