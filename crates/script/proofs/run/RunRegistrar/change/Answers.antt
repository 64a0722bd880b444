use Rattle.std.proofs.Common.{◌∙◌, ap, refl}
use Rattle.desk_core.specs.Mutation.IsAnswered.{NotListed}
use Rattle.script.proofs.ChangeLemmas.{run_changed}
use Rattle.script.proofs.run.RunRegistrar.change.Goals as goal

pub returns-in_default-clause-names : goal.returns-in_default-clause-names
returns-in_default-clause-names g c = refl

pub returns-in_default-clause-answered : goal.returns-in_default-clause-answered
returns-in_default-clause-answered g c = rw (c.in_default.is, c.of_refusal.ensures) record { names = refl; most = refl; watches = refl; answer = NotListed refl; unstored = λ is. cc }

pub returns-in_default-clause-shows : goal.returns-in_default-clause-shows
returns-in_default-clause-shows g c = rw c.of_refusal.ensures tt

pub returns-in_default-clause-refused : goal.returns-in_default-clause-refused
returns-in_default-clause-refused g c = rw c.of_refusal.ensures refl

pub returns-in_default-clause-placed : goal.returns-in_default-clause-placed
returns-in_default-clause-placed g c = rw c.of_refusal.ensures tt

pub change-requires : goal.change-requires
change-requires g c = record { ruled = rw c.in-Some.is at c.requires.ruled }

pub invariant_of-self : goal.invariant_of-self
invariant_of-self g c = c.in-Ok.ensures.answered.stored.same ∙ c.self.invariant

pub returns-in-Ok-clause-names : goal.returns-in-Ok-clause-names
returns-in-Ok-clause-names g c = ap (λ run. run.names) c.self.view_is

pub returns-in-Ok-clause-answered : goal.returns-in-Ok-clause-answered
returns-in-Ok-clause-answered g c =
    run_changed _ c.self.inside.desk c.change.new.self _ _ _ _ _ _ c.self.view_is c.in-Some.is c.in-Ok.ensures.answered (ap (λ effect. effect.result) c.effect.ensures) c.self.invariant

pub returns-in-Ok-clause-shows : goal.returns-in-Ok-clause-shows
returns-in-Ok-clause-shows g c = rw c.effect.ensures c.in-Ok.ensures.shows

pub returns-in-Ok-clause-refused : goal.returns-in-Ok-clause-refused
returns-in-Ok-clause-refused g c = rw c.effect.ensures tt

pub invariant_of-self-2 : goal.invariant_of-self-2
invariant_of-self-2 g c = c.in-Err.ensures.answered.stored.same ∙ c.self.invariant

pub returns-clause-names : goal.returns-clause-names
returns-clause-names g c = ap (λ run. run.names) c.self.view_is

pub returns-clause-answered : goal.returns-clause-answered
returns-clause-answered g c =
    run_changed _ c.self.inside.desk c.change.new.self _ _ _ _ _ _ c.self.view_is c.in-Some.is c.in-Err.ensures.answered (ap (λ effect. effect.result) c.of_refusal-in-Err.ensures) c.self.invariant

pub returns-clause-shows : goal.returns-clause-shows
returns-clause-shows g c = rw c.of_refusal-in-Err.ensures tt

pub returns-clause-refused : goal.returns-clause-refused
returns-clause-refused g c = rw c.of_refusal-in-Err.ensures refl

pub returns-clause-placed : goal.returns-clause-placed
returns-clause-placed g c = rw c.of_refusal-in-Err.ensures tt
