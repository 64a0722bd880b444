use Rattle.journal_store.proofs.TitleLemmas.{one_front, titled, not_cut}
use Rattle.journal_store.proofs.laws.one_preface.Goals as goal

pub returns-clause-one : goal.returns-clause-one
returns-clause-one c = one_front

pub returns-clause-titled : goal.returns-clause-titled
returns-clause-titled c = titled

pub returns-clause-whole : goal.returns-clause-whole
returns-clause-whole c = not_cut
