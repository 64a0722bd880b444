use Rattle.std.proofs.Common.{ap}
use Rattle.control.specs.Session.{SessionState}
use Rattle.reactor.specs.Attendant.{stands}
use Rattle.reactor.specs.Connection.{ConnectionState, state_of}
use Rattle.control_server.proofs.SaidLemmas.{by_draining, speaks_by_turn}
use Rattle.control_server.proofs.sessions.turn_at.Goals as goal

pub returns-clause-reference : goal.returns-clause-reference
returns-clause-reference g c = by_draining (state_of c.args.connection.now).is_draining
    (λ talks. (c.turn.ensures.served talks).2.goes.2)
    (λ drains. ap (λ attendant. attendant.console.ghost_name) (c.turn.ensures.drained drains).0)

pub returns-clause-seat : goal.returns-clause-seat
returns-clause-seat g c =
    (speaks_by_turn _ _ _ _ _ _ _ (stands c.args.attendant.now) (stands c.turn.new.host) _ _ (state_of c.args.connection.now).is_draining
    (λ talks. let served = c.turn.ensures.served talks in (served.0, served.2.goes.0))
    (λ drains. let drained = c.turn.ensures.drained drains in (ap stands drained.0, ap (λ (s : ConnectionState SessionState). s.machine) drained.1))).0.reference

pub returns-clause-spoken : goal.returns-clause-spoken
returns-clause-spoken g c =
    (speaks_by_turn _ _ _ _ _ _ _ (stands c.args.attendant.now) (stands c.turn.new.host) _ _ (state_of c.args.connection.now).is_draining
    (λ talks. let served = c.turn.ensures.served talks in (served.0, served.2.goes.0))
    (λ drains. let drained = c.turn.ensures.drained drains in (ap stands drained.0, ap (λ (s : ConnectionState SessionState). s.machine) drained.1))).1
