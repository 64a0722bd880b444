use Rattle.std.proofs.Common.{[], refl, ap, sym, ◌∙◌}
use Rattle.web_call.specs.Answer.{source_of}
use Rattle.reactor.specs.CallingLaws.{served_nowhere}
use Rattle.reactor.proofs.CallingLemmas.{has_ended, was_answered}
use Rattle.reactor.proofs.calling.AnyHostCall.step.Goals as goal

pub returns-then-wanted-gt0-clause-goes : goal.returns-then-wanted-gt0-clause-goes
returns-then-wanted-gt0-clause-goes g c =
    ([], served_nowhere (source_of (g.D.Door.names c.args.self.now) g.D.Door.kept g.D.Door.is_plain) c.args.then c.args.self.now c.args.call.now (g.D.Door.stays_self c.args.self.now))

pub returns-then-is_whole-clause-goes : goal.returns-then-is_whole-clause-goes
returns-then-is_whole-clause-goes g c =
    let answer = c.answer.ensures in
    let asked = answer.asked in
    let from = source_of (g.D.Door.names c.answer.new.door) g.D.Door.kept g.D.Door.is_plain in
    let same = ap (λ names. source_of names g.D.Door.kept g.D.Door.is_plain) answer.names in (
      asked.0,
      was_answered c.args.then from same (sym c.is_whole.ensures ∙ c.if-is_whole.true) asked.0 asked.1 asked.2 asked.3 answer.names answer.stays answer.ready answer.no_end,
    )

pub returns-then-is_starved-clause-goes : goal.returns-then-is_starved-clause-goes
returns-then-is_starved-clause-goes g c =
    ([], served_nowhere (source_of (g.D.Door.names c.args.self.now) g.D.Door.kept g.D.Door.is_plain) c.args.then c.args.self.now c.args.call.now (g.D.Door.stays_self c.args.self.now))

pub returns-then-not-is_watching-clause-goes : goal.returns-then-not-is_watching-clause-goes
returns-then-not-is_watching-clause-goes g c =
    ([], served_nowhere (source_of (g.D.Door.names c.args.self.now) g.D.Door.kept g.D.Door.is_plain) c.args.then c.args.self.now c.args.call.now (g.D.Door.stays_self c.args.self.now))

pub returns-in-End-clause-goes : goal.returns-in-End-clause-goes
returns-in-End-clause-goes g c = ([], rw c.in-End.is (has_ended (source_of (g.D.Door.names c.args.self.now) g.D.Door.kept g.D.Door.is_plain) refl (sym c.is_watching.ensures ∙ c.if-not-is_watching.false) c.end.ensures.ended (g.D.Door.stays_self c.args.self.now) c.end.ensures.answered c.end.ensures.outcome))
