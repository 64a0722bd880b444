use Rattle.std.proofs.Common.{refl}
use Rattle.web_call.specs.HeadAnswer.{Refused, Ended, Asked}
use Rattle.web_call.proofs.IntakeLemmas.{head_of_open, without_body}
use Rattle.web_call.proofs.intake.steps.after_head.Goals as goal

pub returns-in-Http-clause-read : goal.returns-in-Http-clause-read
returns-in-Http-clause-read c = λ read none.
    without_body _ _ (Refused c.in-Http.field-0) (head_of_open _ c.requires.some c.requires.within (c.ends_head.ensures.ends c.if-not-ends_head.false) read) c.in-Http.ensures.headed refl none

pub returns-in-Status-clause-read : goal.returns-in-Status-clause-read
returns-in-Status-clause-read c = λ read none.
    without_body _ _ (Ended c.in-Status.field-0 c.in-Status.field-1.now)
    (head_of_open _ c.requires.some c.requires.within (c.ends_head.ensures.ends c.if-not-ends_head.false) read)
    c.in-Status.ensures.headed refl none

pub returns-in-Body-clause-read : goal.returns-in-Body-clause-read
returns-in-Body-clause-read c = λ read none.
    c.before_body.ensures.read _ (Asked c.in-Body.method c.in-Body.length) (head_of_open _ c.requires.some c.requires.within (c.ends_head.ensures.ends c.if-not-ends_head.false) read)
    c.in-Body.ensures.headed refl none
