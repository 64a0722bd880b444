use Rattle.reactor.proofs.TalkingLemmas.{given}
use Rattle.reactor.proofs.talking.SessionMachine.give.Goals as goal

pub returns-clause-moves : goal.returns-clause-moves
returns-clause-moves c = given c.args.self.now c.give.new.self c.args.bytes.now c.give.result c.requires c.give.ensures.count c.give.ensures.state
