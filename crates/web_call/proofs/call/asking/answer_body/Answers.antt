use Rattle.std.proofs.Common.{refl, arith, [], ◌∷◌}
use Rattle.web_call.specs.Answer.IsStarvedAt.{Refusal as StarvedRefusal, Check as StarvedCheck}
use Rattle.web_call.specs.Answer.Sends.{RefusedByBody}
use Rattle.web_call.specs.ResponseTexts.{status_pieces, check_pieces}
use Rattle.web_call.proofs.CallLemmas.{ends, checks, opens}
use Rattle.web_call.proofs.WalkLemmas.{AsksDoor-none, AsksDoor-once}
use Rattle.web_call.proofs.call.asking.answer_body.Goals as goal

pub returns-in-Status-clause-asked : goal.returns-in-Status-clause-asked
returns-in-Status-clause-asked g c = (
  [],
  omega arith,
  AsksDoor-none,
  λ head received of_call requested headed.
      ends _ received head c.args.body.now [] (status_pieces c.in-Status.code c.in-Status.text.now) _ c.last.result requested
      (RefusedByBody c.in-Status.code c.in-Status.text.now (record { is_of_call = of_call; method = c.args.method; is_headed = headed; is_asked = c.in-Status.ensures.asked }) refl)
      (StarvedRefusal head c.args.body.now c.args.method c.in-Status.code c.in-Status.text.now requested.is requested.is_head headed c.in-Status.ensures.asked refl)
      (c.last.ensures.told (status_pieces c.in-Status.code c.in-Status.text.now) c.status.ensures),
)

pub returns-in-Check-clause-asked : goal.returns-in-Check-clause-asked
returns-in-Check-clause-asked g c =
    let seen = g.D.Door.seen c.check-status.new.self in (
      seen ∷ [],
      omega arith,
      AsksDoor-once c.check-status.ensures.follows c.check-status.ensures.legal,
      λ head received of_call requested headed.
          ends _ received head c.args.body.now (seen ∷ []) (check_pieces c.check-status.result) _ c.last-in-Check.result requested
          (checks c.in-Check.name.now seen c.check-status.result c.check_code.result
          (record { is_of_call = of_call; method = c.args.method; is_headed = headed; is_asked = c.in-Check.ensures.asked }) refl c.check-status.ensures.status
          c.check_code.ensures)
          (StarvedCheck head c.args.body.now c.args.method c.in-Check.name.now seen requested.is requested.is_head headed c.in-Check.ensures.asked refl)
          (c.last-in-Check.ensures.told (check_pieces c.check-status.result) c.check.ensures),
    )

pub returns-in-Watch-clause-asked : goal.returns-in-Watch-clause-asked
returns-in-Watch-clause-asked g c =
    let seen = g.D.Door.seen c.open-watch.new.self in (
      seen ∷ [],
      omega arith,
      AsksDoor-once c.open-watch.ensures.follows c.open-watch.ensures.legal,
      λ head received of_call requested headed.
          opens _ received head c.args.body.now c.args.method c.in-Watch.name.now seen c.open-watch.result.0 c.open-watch.result.1 c.new.result of_call requested headed c.in-Watch.ensures.asked
          c.open-watch.ensures.watch c.open-watch.ensures.status (c.new.ensures.goes _ c.first.ensures),
    )
