use Rattle.std.proofs.Common.{[], ◌∷◌, sym, append-nil, arith}
use Rattle.web_call.specs.Pieces.{plain}
use Rattle.web_call.proofs.PieceLemmas.{frames_none}
use Rattle.web_call.proofs.text.Text.plain.Goals as goal

pub returns : goal.returns
returns c = record {
  bytes = sym (append-nil c.args.bytes.items);
  frames = λ n _. sym (frames_none (plain c.args.bytes.items ∷ []) n (omega arith));
}
