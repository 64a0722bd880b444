use Rattle.journal_store.proofs.AgainLemmas.{alike_again, counted_again}
use Rattle.journal_store.proofs.laws.read_again.Goals as goal

pub returns-clause-alike : goal.returns-clause-alike
returns-clause-alike c = alike_again

pub returns-clause-counted : goal.returns-clause-counted
returns-clause-counted c = counted_again
