use Rattle.desk_core.proofs.KeptLemmas.{kept_suffice, suffice_near, part_of_kept, no_slot_near}
use Rattle.desk_core.proofs.laws.kept_changes_suffice.Goals as goal

pub returns-clause-cursor : goal.returns-clause-cursor
returns-clause-cursor c kept changes watch has = (kept_suffice kept changes watch has, suffice_near kept changes watch)

pub returns-clause-part : goal.returns-clause-part
returns-clause-part c = part_of_kept

pub returns-clause-no_slot : goal.returns-clause-no_slot
returns-clause-no_slot c = no_slot_near
