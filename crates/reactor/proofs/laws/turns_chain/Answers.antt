use Rattle.reactor.proofs.laws.turns_chain.Goals as goal

pub returns : goal.returns
returns g c = record { begins = g.met.H.Host.spans_nothing; waits = g.met.H.Host.spans_waiting; goes_on = g.met.H.Host.spans_on }
