use Rattle.std.proofs.Common.{sym, refl, ◌∙◌}
use Rattle.script.proofs.OpeningLemmas.{other_says_no_max}
use Rattle.script.proofs.opening.said_max.Goals as goal

pub returns-in_default-2 : goal.returns-in_default-2
returns-in_default-2 c = (other_says_no_max _ _ _ _ (sym c.look_ahead-behind.ensures ∙ c.in-Ok.ensures.line) (rw c.in_default-2.is at c.in_ok-max.ensures), refl)
