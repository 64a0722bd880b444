use Rattle.std.proofs.Common.{◌∙◌}
use Rattle.script.proofs.DoubleLemmas.{again, not_again}
use Rattle.script.proofs.catalogue_complaint.first_double.Goals as goal

pub returns-then-contains : goal.returns-then-contains
returns-then-contains c = again c.words.rest.now _ _ c.in-len1-up.len_at_least c.contains.ensures.value c.if-contains.true ∙ c.words.invariant

pub words-preserved : goal.words-preserved
words-preserved c = not_again c.words.rest.now _ _ c.in-len1-up.len_at_least c.contains.ensures.value c.if-contains.false ∙ c.words.invariant
