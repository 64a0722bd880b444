use Rattle.std.proofs.Common.{false, refl}
use Rattle.web_call.specs.Answer.{source_of}
use Rattle.reactor.specs.Attendant.{stands}
use Rattle.reactor.specs.TalkingLaws.{said_nothing}
use Rattle.reactor.proofs.TalkingLemmas.{was_met}
use Rattle.reactor.proofs.talking.AttendantHostSession.step.Goals as goal

pub returns-then-eq-clause-goes : goal.returns-then-eq-clause-goes
returns-then-eq-clause-goes g c = (said_nothing (stands c.args.self.now) c.args.session.now, refl, refl)

pub returns-then-has_line-clause-goes : goal.returns-then-has_line-clause-goes
returns-then-has_line-clause-goes g c =
    let met = c.answer.ensures in (
      was_met (stands c.args.self.now) (c.answer.new.console, c.answer.new.server) c.args.session.now c.answer.new.self c.answer.result met.met met.cut c.requires
          (c.has_line.ensures.0 c.if-has_line.true).0 met.unread met.waiting met.over met.ended
          (source_of (g.C.Registrar.names c.answer.new.console) g.C.Console.kept false) met.names,
      met.names,
      refl,
    )

pub returns-then-is_over-clause-goes : goal.returns-then-is_over-clause-goes
returns-then-is_over-clause-goes g c = (said_nothing (stands c.args.self.now) c.args.session.now, refl, refl)

pub returns-clause-goes : goal.returns-clause-goes
returns-clause-goes g c = (said_nothing (stands c.args.self.now) c.args.session.now, refl, refl)
