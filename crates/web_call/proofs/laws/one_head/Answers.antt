use Rattle.web_call.specs.Head.{is_too_large}
use Rattle.web_call.proofs.HeadLemmas.{one_answer}
use Rattle.web_call.proofs.laws.one_head.Goals as goal

pub returns : goal.returns
returns c = λ bytes a b. one_answer (is_too_large bytes) bytes a b
