use Rattle.handover.proofs.signals.StopSignals.blocked_in.Goals as goal

pub returns-in-None-clause-some : goal.returns-in-None-clause-some
returns-in-None-clause-some c = λ mask is. absurd (c.in-None.ensures.none mask is)
