use Rattle.std.proofs.lemmas.Result.{IfOk-from_err}
use Rattle.script.proofs.OpeningLemmas.{no_names, lists_names}
use Rattle.script.proofs.WordLemmas.{first_word}
use Rattle.script.proofs.opening.names_in.Goals as goal

pub returns-in_default : goal.returns-in_default
returns-in_default c = no_names _ (rw c.in_default.is at c.in_ok-words.ensures)

pub returns-in_err-words : goal.returns-in_err-words
returns-in_err-words c = IfOk-from_err _ _ c.from_residual.ensures.0

pub returns-in_err-names_of-in-catalogue : goal.returns-in_err-names_of-in-catalogue
returns-in_err-names_of-in-catalogue c = IfOk-from_err _ _ c.from_residual-in_err-names_of-in-catalogue.ensures.0

pub returns-in-catalogue : goal.returns-in-catalogue
returns-in-catalogue c =
    lists_names _ c.in-Some.words.items c.as_slice.result.now _ _ _ (rw c.in-Some.is at c.in_ok-words.ensures) c.as_slice.ensures.value
    (first_word _ _ _ c.in-catalogue.len_at_least c.in-catalogue.is-catalogue) c.is_empty.ensures c.if-is_empty.false c.in_ok-names_of-in-catalogue.ensures
