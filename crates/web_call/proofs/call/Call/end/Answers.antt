use Rattle.std.proofs.Common.{subst, sym}
use Rattle.web_call.proofs.CallLemmas.{ended_at}
use Rattle.web_call.specs.Past.{StandsAt}
use Rattle.web_call.proofs.call.Call.end.Goals as goal

pub returns-clause-ended : goal.returns-clause-ended
returns-clause-ended c = λ source past stands.
    subst (λ stage. StandsAt source past stage c.close.new.self.outgoing) (sym c.close.ensures.stage)
    (ended_at source past c.args.self.now.stage c.args.self.now.outgoing c.close.new.self.outgoing c.frames-messages.result c.requires.watching c.requires.told
    c.frames-messages.ensures c.close.ensures.goes stands)
