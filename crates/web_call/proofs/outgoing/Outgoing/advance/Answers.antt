use Rattle.std.proofs.Common.{◌≡◌, ◌+◌, ◌-◌, refl, sym, ap, length, drop, ◌∙◌, arith}
use Rattle.std.proofs.lemmas.List.{drop-drop, length-drop}
use Rattle.web_call.specs.Text.{text_bytes}
use Rattle.web_call.proofs.OutgoingLemmas.{goes_further}
use Rattle.web_call.proofs.outgoing.Outgoing.advance.Goals as goal

pub returns-clause-goes : goal.returns-clause-goes
returns-clause-goes c = λ done part sent goes.
    let all = text_bytes c.args.self.now.text in
    let gone : length c.bytes.result.now - (length c.left.result.now - c.args.count) ≡ c.args.self.now.gone + c.args.count =
    omega (arith, c.requires, c.args.self.now.within, ap length c.bytes.ensures, ap length c.left.ensures, length-drop c.args.self.now.gone all) in
    goes_further c.args.self.now _ done part sent c.args.count refl refl
    (omega (arith, gone, c.requires, c.args.self.now.within, length-drop c.args.self.now.gone all)) c.requires
    (ap (λ n. drop n all) gone ∙ sym (drop-drop c.args.count c.args.self.now.gone all)) goes
