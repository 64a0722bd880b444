use Rattle.script.proofs.OpeningLemmas.{no_max, max_line}
use Rattle.script.proofs.WordLemmas.{two_words}
use Rattle.script.proofs.opening.max_in.Goals as goal

pub returns-in_default : goal.returns-in_default
returns-in_default c = no_max _ (rw c.in_default.is at c.in_ok-words.ensures)

pub returns-in-max : goal.returns-in-max
returns-in-max c =
    max_line _ c.in-Some.words.items c.as_slice.result.now _ _ (rw c.in-Some.is at c.in_ok-words.ensures) c.as_slice.ensures.value
    (two_words _ _ _ c.in-max.len_at_least c.in-max.len_below c.in-max.is-max) c.number_of.ensures
