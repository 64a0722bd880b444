use Rattle.web_call.specs.declared.method.Method.TheVariants.{Check}
use Rattle.commands.proofs.AnswerLemmas.{one_answer_to}
use Rattle.commands.proofs.answer.one_response.Goals as goal

pub returns : goal.returns
returns c = one_answer_to (λ a b body. c.one_ask.ensures Check body a b)
