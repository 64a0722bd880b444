use Rattle.std.proofs.Common.{ap, arith, length}
use Rattle.control.specs.Session.{SessionState}
use Rattle.control.specs.Text.IsTold.{AsItIs}
use Rattle.control.proofs.TextLemmas.{was_long}
use Rattle.control.proofs.session.Session.say.Goals as goal

pub returns-then-is_ok-clause-told : goal.returns-then-is_ok-clause-told
returns-then-is_ok-clause-told c = AsItIs

pub returns-clause-told : goal.returns-clause-told
returns-clause-told c = was_long _ c.write_answer.result c.is_ok.result _ c.is_ok.ensures.value c.if-is_ok.false c.write_answer.ensures.long
    (omega (arith, ap (λ (session : SessionState). length session.waiting) c.self.view_is, ap length c.requires.sent, c.self.inside.waiting.ok.0, c.self.invariant.2))
