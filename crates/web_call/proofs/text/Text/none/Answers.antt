use Rattle.std.proofs.Common.{refl, sym}
use Rattle.web_call.proofs.PieceLemmas.{frames_within-nil}
use Rattle.web_call.proofs.text.Text.none.Goals as goal

pub returns : goal.returns
returns c = record { bytes = refl; frames = λ n _. sym (frames_within-nil n) }
