use Rattle.std.proofs.Common.{take}
use Rattle.web_call.specs.Stages.{to_send}
use Rattle.reactor.proofs.CallingLemmas.{was_sent}
use Rattle.reactor.proofs.calling.CallMachine.sent.Goals as goal

pub returns : goal.returns
returns c =
    let sent = c.sent.ensures in
    record { moves = was_sent c.args.self.now c.sent.new.self (take c.args.count (to_send c.args.self.now)) sent.carries sent.ending sent.watching sent.reads }
