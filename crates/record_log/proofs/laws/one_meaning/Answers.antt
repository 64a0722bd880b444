use Rattle.record_log.proofs.LawLemmas.{one, damage, after_a_crash}
use Rattle.record_log.proofs.laws.one_meaning.Goals as goal

pub returns-clause-one : goal.returns-clause-one
returns-clause-one c = one

pub returns-clause-damage : goal.returns-clause-damage
returns-clause-damage c = damage

pub returns-clause-after_a_crash : goal.returns-clause-after_a_crash
returns-clause-after_a_crash c = after_a_crash
