use Rattle.desk_core.proofs.CatalogueLemmas.{slot_of-name_at, name_at-slot_of}
use Rattle.desk_core.proofs.laws.slots_and_names.Goals as goal

pub returns : goal.returns
returns c = λ names name slot is. (name_at-slot_of names name slot, slot_of-name_at names name slot is.distinct)
