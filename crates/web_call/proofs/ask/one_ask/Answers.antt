use Rattle.web_call.proofs.AskLemmas.{one_asked}
use Rattle.web_call.proofs.ask.one_ask.Goals as goal

pub returns : goal.returns
returns c = one_asked (record { answer = c.one_answer.ensures; name = c.one_request.ensures.name; either = c.one_request.ensures.either })
