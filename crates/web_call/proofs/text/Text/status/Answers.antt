use Rattle.std.proofs.Common.{refl, ◌∷◌, [], arith}
use Rattle.web_call.specs.Pieces.{plain}
use Rattle.web_call.proofs.TextLemmas.{text_of_one}
use Rattle.web_call.proofs.text.Text.status.Goals as goal

pub returns : goal.returns
returns c = text_of_one (plain _ ∷ []) [] _ _ c.len-end.result (omega arith) (omega arith) c.in_ok-bytes.ensures refl refl (omega (arith, c.len-end.ensures))
