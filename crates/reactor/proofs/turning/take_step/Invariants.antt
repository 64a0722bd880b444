use Rattle.reactor.proofs.turning.take_step.Given as goal

-- what the step is answered from
abbrev pub ghost-stepped : goal.ghost-stepped
ghost-stepped g a = g.H.Host.source a._host.now
