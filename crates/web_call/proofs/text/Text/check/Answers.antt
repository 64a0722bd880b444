use Rattle.std.proofs.Common.{refl, ap, length, ◌-◌, arith, rules}
use Rattle.web_call.proofs.TextLemmas.{check_response_length, text_of_check}
use Rattle.web_call.proofs.text.Text.check.Goals as goal

pub returns : goal.returns
returns c =
    text_of_check c.args.status _ (c.len-end.result - 20) c.len-end.result (search rules) c.in_ok-bytes.ensures refl refl
    (omega (arith, c.len-end.ensures, ap length c.in_ok-bytes.ensures, check_response_length c.args.status (search rules))) (search rules)
