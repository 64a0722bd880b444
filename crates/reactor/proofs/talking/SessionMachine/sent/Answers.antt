use Rattle.reactor.proofs.TalkingLemmas.{was_sent}
use Rattle.reactor.proofs.talking.SessionMachine.sent.Goals as goal

pub returns : goal.returns
returns c = record { moves = was_sent c.args.self.now c.sent.new.self c.args.count c.sent.ensures }
