use Rattle.client.proofs.OneAnswerLemmas.{one_meaning}
use Rattle.client.proofs.laws.one_answer.Goals as goal

pub returns : goal.returns
returns c = one_meaning
