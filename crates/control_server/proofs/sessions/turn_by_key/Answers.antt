use Rattle.std.proofs.Common.{arith, subst, sym}
use Rattle.hall.specs.Seats.{SeatState}
use Rattle.reactor.specs.Moved.{nothing_moved}
use Rattle.reactor.specs.TalkingLaws.{said_nothing}
use Rattle.control_server.specs.Seats.{MetLines}
use Rattle.control_server.specs.Sessions.{seats_unused}
use Rattle.control_server.proofs.SeatLemmas.{one_met, seats_ours}
use Rattle.control_server.proofs.sessions.turn_by_key.Goals as goal

pub returns-then-key-seats-clause-met : goal.returns-then-key-seats-clause-met
returns-then-key-seats-clause-met g c = seats_unused _ _ _ _

pub returns-then-key-seats-clause-spoken : goal.returns-then-key-seats-clause-spoken
returns-then-key-seats-clause-spoken g c = (nothing_moved, λ other. said_nothing _ _)

pub returns-clause-met : goal.returns-clause-met
returns-clause-met g c =
    one_met g.K.Keep.kept c.args.overview.terms c.args.context.now.hall.now.names c.args.seats.now c.args.visit.key c.index-seats-key.result c.turn_by.new.seat (omega (arith, c.if-key-seats.false)) c.index-seats-key.is
    (subst (λ (seat : SeatState). MetLines g.K.Keep.kept c.args.overview.terms c.args.context.now.hall.now.names seat c.turn_by.new.seat) (sym c.index-seats-key.is)
    (record { lines = c.turn_by.ensures.1.lines; answers = c.turn_by.ensures.1.answers; met = c.turn_by.ensures.1.are_met }))

pub returns-clause-ours : goal.returns-clause-ours
returns-clause-ours g c = seats_ours _ _ _ _ _ _ (returns-clause-met g c) c.requires.ours
