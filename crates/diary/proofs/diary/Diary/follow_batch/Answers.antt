use Rattle.hall.proofs.LookingLemmas.{looked_on}
use Rattle.diary.proofs.diary.Diary.follow_batch.Goals as goal

pub returns-else-copy-clause-looked : goal.returns-else-copy-clause-looked
returns-else-copy-clause-looked g c =
    looked_on c.args.seat.now c.copy.new.seat c.skip.new.seat c.copy.ensures.looked c.skip.ensures.looked
