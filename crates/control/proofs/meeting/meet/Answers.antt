use Rattle.std.proofs.Common.{refl}
use Rattle.control.proofs.MeetingLemmas.{expected, listed, told, stopped}
use Rattle.control.proofs.meeting.meet.Goals as goal

pub returns-in-Expect-clause-met : goal.returns-in-Expect-clause-met
returns-in-Expect-clause-met g c = expected _ _ _ _ _ _ _ _ _ _ _ _ _ c.in-Expect.is c.expect.ensures.expects

pub returns-in-List-clause-met : goal.returns-in-List-clause-met
returns-in-List-clause-met g c = listed _ _ _ _ _ _ _ _ _ _ _ _ c.in-List.is (record { looked = c.board.ensures.looks; server = refl }) c.board.ensures.board

pub returns-in-Stats-clause-met : goal.returns-in-Stats-clause-met
returns-in-Stats-clause-met g c = told _ _ _ _ _ _ _ _ _ _ _ _ c.in-Stats.is (record { looked = c.stats.ensures.looks; server = refl }) c.stats.ensures.tells

pub returns-in-Stop-clause-met : goal.returns-in-Stop-clause-met
returns-in-Stop-clause-met g c = stopped _ _ _ _ _ _ _ _ _ _ _ c.in-Stop.is (record { console = refl; server = c.stop.ensures.stopped; terms_stay = c.stop.ensures.terms })
