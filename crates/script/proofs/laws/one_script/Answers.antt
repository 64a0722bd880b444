use Rattle.script.proofs.OneScript as law
use Rattle.script.proofs.laws.one_script.Goals as goal

pub returns : goal.returns
returns c = record { script = law.one_script; fault = law.one_fault; either = law.script_or_fault }
