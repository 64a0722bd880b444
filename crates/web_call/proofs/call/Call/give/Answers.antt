use Rattle.web_call.proofs.CallLemmas.{given_none}
use Rattle.web_call.proofs.call.Call.give.Goals as goal

pub returns-in_default-clause-carries : goal.returns-in_default-clause-carries
returns-in_default-clause-carries c = λ source past stands. given_none source past c.args.self.now stands
