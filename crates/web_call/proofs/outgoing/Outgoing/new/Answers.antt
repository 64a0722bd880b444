use Rattle.std.proofs.Common.{refl}
use Rattle.web_call.proofs.OutgoingLemmas.{goes_begun}
use Rattle.web_call.proofs.outgoing.Outgoing.new.Goals as goal

pub returns-clause-goes : goal.returns-clause-goes
returns-clause-goes c = λ part is. goes_begun _ part refl refl is
