use Rattle.std.proofs.Common.{arith}
use Rattle.web_call.proofs.intake.steps.before_body.Goals as goal

pub returns-in_default-clause-read : goal.returns-in_default-clause-read
returns-in_default-clause-read c = λ head answer is_head is_headed len none.
    ((c.args.len, record { answer = answer; is_head = is_head; is_headed = is_headed; len = omega (arith, len) }, omega (arith, c.if-len-eq0.false)), none)
