use Rattle.std.proofs.Common.{refl}
use Rattle.web_call.proofs.OutgoingLemmas.{goes_on}
use Rattle.web_call.proofs.outgoing.Outgoing.follow.Goals as goal

pub returns-clause-goes : goal.returns-clause-goes
returns-clause-goes c = λ done part next sent goes is. goes_on c.args.self.now _ done part next sent c.requires refl c.frames.ensures is goes
