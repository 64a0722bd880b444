use Rattle.reactor.specs.Calling.{taken_by}
use Rattle.reactor.proofs.CallingLemmas.{given, shut_takes_none}
use Rattle.reactor.proofs.calling.CallMachine.give.Goals as goal

pub returns-clause-moves : goal.returns-clause-moves
returns-clause-moves c =
    let give = c.give.ensures in
    given c.args.self.now c.give.new.self c.args.bytes.now c.give.result (taken_by c.args.self.now) give.bound c.requires (shut_takes_none c.args.self.now) give.carries give.rest give.closed give.unanswered
