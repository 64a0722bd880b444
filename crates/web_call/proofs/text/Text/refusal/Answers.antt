use Rattle.std.proofs.Common.{sym, arith}
use Rattle.web_call.specs.ResponseTexts.{refusal_pieces}
use Rattle.web_call.proofs.PieceLemmas.{frames_none}
use Rattle.web_call.proofs.text.Text.refusal.Goals as goal

pub returns : goal.returns
returns c = record {
  bytes = c.in_ok-refuse_text.ensures;
  frames = λ n _. sym (frames_none (refusal_pieces c.args.http) n (omega arith));
}
