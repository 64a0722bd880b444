use Rattle.std.proofs.Common.{subst, sym}
use Rattle.hall.proofs.LookingLemmas.{looked_on}
use Rattle.hall.specs.Looking.{HasLooked}
use Rattle.diary.proofs.diary.Diary.follow_journal.Goals as goal
use Rattle.diary.proofs.diary.Diary.follow_journal.Goals.{then-entries-place, else-entries-place}

pub returns-clause-looked : goal.returns-clause-looked
returns-clause-looked g c =
    elim c.if-entries-place.branch [
      | then-entries-place w ↦
          subst (λ seat. HasLooked c.args.seat.now seat) (sym w.seat-is)
          (looked_on c.args.seat.now c.board_of.new.seat w.follow_batch.new.seat c.board_of.ensures.looked w.follow_batch.ensures.looked)
      | else-entries-place w ↦ subst (λ seat. HasLooked c.args.seat.now seat) (sym w.seat-is) c.board_of.ensures.looked
    ]
