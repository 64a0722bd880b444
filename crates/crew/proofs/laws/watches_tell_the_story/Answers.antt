use Rattle.crew.proofs.Story.{tells_story}
use Rattle.crew.proofs.laws.watches_tell_the_story.Goals as goal

pub returns : goal.returns
returns c = tells_story
