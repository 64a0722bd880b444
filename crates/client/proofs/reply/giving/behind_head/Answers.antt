use Rattle.std.proofs.Common.{Err}
use Rattle.std.proofs.lemmas.Result.{IfErr-at_err, IfOk-weaker}
use Rattle.client.specs.declared.ask_fault.AskFault.{AskFault}
use Rattle.client.specs.declared.ask_fault.AskFault.TheVariants.{BadResponse}
use Rattle.client.specs.HttpFraming.{IsFramed}
use Rattle.client.specs.Reply.{ByHead}
use Rattle.client.proofs.GivingLemmas.{begun_from}
use Rattle.client.proofs.HeadLemmas.{refused_any}
use Rattle.client.proofs.ReplyLemmas.{on_err}
use Rattle.client.proofs.reply.giving.behind_head.Goals as goal

pub returns-in-Err-clause-bad : goal.returns-in-Err-clause-bad
returns-in-Err-clause-bad c = λ is is_head.
    ByHead is_head (IfErr-at_err (λ (fault : AskFault). IsFramed c.args.call.method c.args.head.now (Err fault)) is c.in-Err.ensures.says)

pub returns-in-Err-clause-http : goal.returns-in-Err-clause-http
returns-in-Err-clause-http c = λ status is is_head. record {
  is_head = is_head;
  framed = refused_any c.args.call.method c.args.head.now status
      (IfErr-at_err (λ (fault : AskFault). IsFramed c.args.call.method c.args.head.now (Err fault)) is c.in-Err.ensures.says);
}

pub returns-clause-ok : goal.returns-clause-ok
returns-clause-ok c =
    IfOk-weaker c.settled.result _ _ (λ stage told other is_head. told c.args.head.now other
    (begun_from c.args.call.method c.args.call.most c.args.head.now c.in-Ok.framing c.new-3.result.next c.new-3.result.more c.new-2.result.items c.new.result
    c.args.call.some is_head c.in-Ok.ensures.says c.new-3.ensures.stands c.new-2.ensures.items c.new.ensures)) c.settled.ensures.ok

pub returns-clause-bad : goal.returns-clause-bad
returns-clause-bad c = λ is is_head.
    on_err c.settled.result BadResponse is c.settled.ensures.bad c.args.head.now
    (begun_from c.args.call.method c.args.call.most c.args.head.now c.in-Ok.framing c.new-3.result.next c.new-3.result.more c.new-2.result.items c.new.result
    c.args.call.some is_head c.in-Ok.ensures.says c.new-3.ensures.stands c.new-2.ensures.items c.new.ensures)
