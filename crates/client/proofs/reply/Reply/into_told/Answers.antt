use Rattle.std.proofs.Common.{subst}
use Rattle.client.specs.declared.reply.ReplyStage.{ReplyStage}
use Rattle.client.specs.Stages.{StandsAt}
use Rattle.client.proofs.reply.Reply.into_told.Goals as goal

pub returns-clause-told : goal.returns-clause-told
returns-clause-told c = λ bytes holds.
    subst (λ (stage : ReplyStage). StandsAt c.args.self.call.method c.args.self.call.most bytes c.args.self.head.items stage) c.in-Told.is holds
