use Rattle.control.proofs.RequestLemmas.{is_word}
use Rattle.control.specs.Request.IsWord.{ForList, ForStats, ForStop}
use Rattle.control.proofs.request.read_word.Goals as goal

pub returns-then-eq : goal.returns-then-eq
returns-then-eq c = ForList _ (is_word _ _ _ c.eq.ensures c.if-eq.true)

pub returns-then-eq-2 : goal.returns-then-eq-2
returns-then-eq-2 c = ForStats _ (is_word _ _ _ c.eq-else-eq.ensures c.if-eq-2.true)

pub returns-then-eq-3 : goal.returns-then-eq-3
returns-then-eq-3 c = ForStop _ (is_word _ _ _ c.eq-else-eq-2.ensures c.if-eq-3.true)
