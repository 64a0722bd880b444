use Rattle.desk_core.proofs.NamedLemmas.{cause_told, reason_names}
use Rattle.desk_core.proofs.laws.reasons_name_entries.Goals as goal

pub returns-clause-named : goal.returns-clause-named
returns-clause-named c = reason_names

pub returns-clause-told : goal.returns-clause-told
returns-clause-told c = cause_told
