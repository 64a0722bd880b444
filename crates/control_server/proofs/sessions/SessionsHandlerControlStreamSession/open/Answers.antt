use Rattle.control_server.specs.Sessions.{met_none}
use Rattle.control_server.proofs.SeatLemmas.{second_of}
use Rattle.control_server.proofs.sessions.SessionsHandlerControlStreamSession.open.Goals as goal

pub returns-then-is_full-clause-stays : goal.returns-then-is_full-clause-stays
returns-then-is_full-clause-stays g c = met_none g.K.Keep.kept c.args.self.now

pub returns-clause-stays : goal.returns-clause-stays
returns-clause-stays g c = met_none g.K.Keep.kept c.args.self.now

pub returns-then-is_full-clause-waits : goal.returns-then-is_full-clause-waits
returns-then-is_full-clause-waits g c = c.turn_away.ensures.quiet

pub returns-clause-waits : goal.returns-clause-waits
returns-clause-waits g c = second_of _ _ c.begin.result c.begin.ensures

pub returns-then-is_full-clause-ready : goal.returns-then-is_full-clause-ready
returns-then-is_full-clause-ready g c = c.requires.ready

pub returns-clause-ready : goal.returns-clause-ready
returns-clause-ready g c = c.requires.ready
