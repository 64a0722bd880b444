use Rattle.reactor.proofs.TalkingLemmas.{has_ended}
use Rattle.reactor.proofs.talking.SessionMachine.end_input.Goals as goal

pub returns-clause-goes_on : goal.returns-clause-goes_on
returns-clause-goes_on c = λ _. has_ended c.args.self.now c.end.new.self c.requires c.end.ensures.state
