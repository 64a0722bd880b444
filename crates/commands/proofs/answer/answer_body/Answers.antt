use Rattle.std.proofs.Common.{arith}
use Rattle.std.proofs.lemmas.Result.{IfOk-weaker}
use Rattle.commands.proofs.AnswerLemmas.{too_large, refuses, answers}
use Rattle.commands.proofs.answer.answer_body.Goals as goal

pub returns-then-body-gt-MAX_BODY_LEN : goal.returns-then-body-gt-MAX_BODY_LEN
returns-then-body-gt-MAX_BODY_LEN c = IfOk-weaker _ _ _ (λ answer is. too_large _ _ _ (omega arith) is) c.status_body.ensures

pub returns-in-Status : goal.returns-in-Status
returns-in-Status c = IfOk-weaker _ _ _ (λ answer is. refuses _ _ _ _ _ (omega arith) c.in-Status.ensures.asked is) c.status_body-in-Status.ensures

pub returns-in-Check : goal.returns-in-Check
returns-in-Check c = IfOk-weaker _ _ _ (λ answer is. answers _ _ _ _ _ (omega arith) c.in-Check.ensures.asked c.status_of.ensures is) c.check_body.ensures
