use Rattle.desk_core.proofs.WatchLemmas.{walk_from_opening, range_from_opening}
use Rattle.desk_core.proofs.laws.walks_tell_the_story.Goals as goal

pub returns : goal.returns
returns c = record {
  story = walk_from_opening;
  range = range_from_opening;
}
