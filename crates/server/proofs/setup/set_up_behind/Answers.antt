use Rattle.server.proofs.SetupLemmas.{stays_referenced, carried_by_door, unmet_by_door}
use Rattle.server.proofs.setup.set_up_behind.Goals as goal

pub returns-clause-reference : goal.returns-clause-reference
returns-clause-reference g c = stays_referenced (λ results. results.items) _ _ _ _ c.set_up.ensures.answered c.set_up.ensures.unmet

pub returns-clause-met : goal.returns-clause-met
returns-clause-met g c = carried_by_door (λ results. results.items) _ _ _ _ c.set_up.ensures.answered

pub returns-clause-unmet : goal.returns-clause-unmet
returns-clause-unmet g c = unmet_by_door _ _ _ c.set_up.ensures.unmet
