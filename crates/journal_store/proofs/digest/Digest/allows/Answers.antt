use Rattle.std.proofs.Common.{◌≡◌, arith, sym, ap, ◌∙◌}
use Rattle.std.proofs.lemmas.Grind.{common_steps}
use Rattle.desk_core.specs.Reply.{reply_to}
use Rattle.journal_store.specs.Digest.{Summary}
use Rattle.journal_store.specs.Next.{reply_by}
use Rattle.journal_store.proofs.ReplyLemmas.{reply_known}
use Rattle.journal_store.proofs.digest.Digest.allows.Goals as goal

pub returns-then-is_lawful_call : goal.returns-then-is_lawful_call
returns-then-is_lawful_call c history is =
    let call = c.args.entry.now.call in
    let known : c.reply_to.result ≡ reply_to history call = c.reply_to.ensures
    ∙ ap (λ (s : Summary). reply_by s.probes s.is_shut call) c.self.view_is ∙ reply_known c.args.self.now history is call in (
      λ yes. let same : c.args.entry.now.reply ≡ c.reply_to.result = grind (arith, common_steps, yes, c.eq.ensures) in
          (is.legal, same ∙ known, c.is_lawful_call.ensures.0 c.if-is_lawful_call.true),
      λ legal. let same : c.args.entry.now.reply ≡ c.reply_to.result = legal.1 ∙ sym known in grind (arith, common_steps, same, c.eq.ensures),
    )
