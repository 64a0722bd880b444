use Rattle.std.proofs.Common.{take, arith}
use Rattle.std.proofs.lemmas.Grind.{common_steps}
use Rattle.web_call.specs.Stages.{to_send}
use Rattle.web_call.proofs.CallLemmas.{sent_on}
use Rattle.web_call.proofs.call.Call.sent.Goals as goal

pub returns-clause-carries : goal.returns-clause-carries
returns-clause-carries c = λ source past stands.
    sent_on source past c.args.self.now.stage c.args.self.now.outgoing c.advance.new.self (take c.args.count (to_send c.args.self.now))
    (λ none. grind (arith, common_steps)) c.advance.ensures.goes stands
