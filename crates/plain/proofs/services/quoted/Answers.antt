use Rattle.std.proofs.Common.{[], ◌∷◌, ◌++◌, ap, ◌∙◌}
use Rattle.json.specs.Token.{string}
use Rattle.plain.proofs.JsonLemmas.{one_string}
use Rattle.plain.proofs.services.quoted.Goals as goal

pub returns : goal.returns
returns c =
    let written = c.in_ok-string.ensures in
    c.into_inner.ensures.items
    ∙ one_string c.string.new.self.before c.args.text.now c.string.new.self.tokens
    (written.room.0 ∙ (c.new-writer.ensures.before ∙ c.new.ensures.items))
    (written.ok ∙ ap (λ tokens. tokens ++ string c.args.text.now ∷ []) c.new-writer.ensures.tokens)
