use Rattle.std.proofs.Common.{rules, ◌≡◌, ◌++◌, ◌∷◌, [], ◌∙◌, Some, ap}
use Rattle.std.specs.Prelude.{slice_get}
use Rattle.journal_store.proofs.PrefaceLemmas.{one_name, text_pushed}
use Rattle.journal_store.proofs.preface.put_name.Goals as goal

pub returns : goal.returns
returns c = λ is.
    let name = c.in_ok-to_vec.field-0 in
    let old = c.args.names.now.items in
    let some : slice_get c.args.catalogue.now c.args.slot ≡ Some name.items = search rules in
    text_pushed old name c.push.new.self.items c.in_ok-push.ensures.items ∙ ap (λ l. l ++ name.items ∷ []) is ∙ one_name c.args.catalogue.now c.args.slot name.items some
