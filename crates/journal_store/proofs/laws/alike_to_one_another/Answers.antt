use Rattle.journal_store.proofs.AlikeLemmas.{alike_itself, alike_joined, alike_turned}
use Rattle.journal_store.proofs.laws.alike_to_one_another.Goals as goal

pub returns : goal.returns
returns c = record { itself = alike_itself; turned = alike_turned; joined = alike_joined }
