use Rattle.desk_core.proofs.OnceLemmas.{all_are_changes, walk_is_changes}
use Rattle.desk_core.proofs.laws.tells_changes_alone.Goals as goal

pub returns : goal.returns
returns c = record {
  changes = all_are_changes;
  walk = walk_is_changes;
}
