use Rattle.std.proofs.Common.{◌++◌, ap, sym, subst, ◌∙◌, take, append_assoc}
use Rattle.std.proofs.lemmas.List.{take_rest}
use Rattle.std.proofs.Math.Seq.{take-add}
use Rattle.web_call.specs.Intake.{HasRead}
use Rattle.web_call.proofs.intake.Intake.give.Goals as goal

pub returns-clause-read : goal.returns-clause-read
returns-clause-read c = λ received had.
    let bytes = c.args.bytes.now in
    let all = ap (λ rest. take c.give_head-taken.result bytes ++ take c.give_body.result rest) (take_rest bytes c.give_head-taken.result)
    ∙ sym (take-add c.give_head-taken.result c.give_body.result bytes) in
    subst (λ more. HasRead c.give_body.new.self more) (append_assoc received _ _ ∙ ap (λ more. received ++ more) all)
    (c.give_body.ensures.read _ (c.give_head-taken.ensures.read received had))
