use Rattle.std.proofs.Common.{subst, sym}
use Rattle.hall.proofs.LookingLemmas.{looked_on}
use Rattle.hall.specs.Looking.{HasLooked}
use Rattle.diary.proofs.diary.Diary.end.Goals as goal
use Rattle.diary.proofs.diary.Diary.end.Goals.{else-loop-test, then-loop-test+then-not-self}

pub loop-preserved : goal.loop-preserved
loop-preserved g c = (
  looked_on c.args.seat.now c.loop.seat c.follow.new.seat c.loop.invariant.0 c.follow.ensures.looked,
  c.follow.ensures.ours,
)

pub returns-clause-looked : goal.returns-clause-looked
returns-clause-looked g c =
    elim c.loop-test.branch [
      | else-loop-test w ↦ subst (λ seat. HasLooked c.args.seat.now seat) (sym w.seat-is) c.loop.invariant.0
      | then-loop-test+then-not-self w ↦
          subst (λ seat. HasLooked c.args.seat.now seat) (sym w.seat-is)
          (looked_on c.args.seat.now c.loop.seat w.follow.new.seat c.loop.invariant.0 w.follow.ensures.looked)
    ]
