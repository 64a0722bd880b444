use Rattle.hall.proofs.LookingLemmas.{looked_on}
use Rattle.diary.proofs.batch.Batch.skip.Goals as goal

pub returns-clause-looked : goal.returns-clause-looked
returns-clause-looked g c =
    looked_on c.args.seat.now c.end_of_changes-self.new.seat c.board_of-board.new.seat c.end_of_changes-self.ensures.looked c.board_of-board.ensures.looked
