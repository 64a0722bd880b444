use Rattle.control.specs.declared.rights.Rights.TheVariants as rights
use Rattle.live_run.specs.Sitting.{terms_by}
use Rattle.running.proofs.begun.Begun.notifying.Goals as goal

pub returns-clause-terms : goal.returns-clause-terms
returns-clause-terms c = λ most have. record { control = c.notifying.ensures.terms (terms_by rights.All most) have.control; report = have.report }
