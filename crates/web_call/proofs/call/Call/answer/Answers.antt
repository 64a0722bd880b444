use Rattle.std.proofs.Common.{subst}
use Rattle.web_call.specs.Past.{StandsAt}
use Rattle.web_call.proofs.call.Call.answer.Goals as goal

pub returns-clause-asked : goal.returns-clause-asked
returns-clause-asked g c =
    let asked = c.answer_request-call.ensures.asked in (
      asked.0,
      asked.1,
      asked.2,
      λ past stands. asked.3 past c.args.self.now.outgoing
          (subst (λ stage. StandsAt (record { names = g.D.Door.names c.args.door.now; kept = g.D.Door.kept; is_plain = g.D.Door.is_plain }) past stage c.args.self.now.outgoing)
          c.in-Reading.is stands),
    )
