use Rattle.desk_core.proofs.CaughtUpLemmas.{walk_ends_right, story_ends_right}
use Rattle.desk_core.proofs.laws.watchers_end_up_right.Goals as goal

pub returns : goal.returns
returns c = record {
  walk = walk_ends_right;
  story = story_ends_right;
}
