use Rattle.std.proofs.Common.{arith, refl, rules}
use Rattle.std.proofs.lemmas.List.{length-take-le}
use Rattle.web_call.proofs.IntakeLemmas.{body_grows}
use Rattle.web_call.proofs.intake.Intake.give_body.Goals as goal

pub returns-clause-read : goal.returns-clause-read
returns-clause-read c = λ received had.
    body_grows c.args.self.now _ received _ c.in-Body.left c.min-count.result c.in-Body.is refl (search rules)
    (length-take-le c.min-count.result c.args.bytes.now (omega (arith, c.min-count.ensures))) (omega (arith, c.min-count.ensures)) (c.after_body-self.ensures.read _ _) had
