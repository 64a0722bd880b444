use Rattle.journal_store.proofs.StandingLemmas.{begins, grows, rewritten, as_one}
use Rattle.journal_store.proofs.laws.standing.Goals as goal

pub returns-clause-begins : goal.returns-clause-begins
returns-clause-begins c = begins

pub returns-clause-grows : goal.returns-clause-grows
returns-clause-grows c = grows

pub returns-clause-rewritten : goal.returns-clause-rewritten
returns-clause-rewritten c = rewritten

pub returns-clause-as_one : goal.returns-clause-as_one
returns-clause-as_one c = as_one
