use Rattle.std.proofs.Common.{◌∙◌}
use Rattle.web_call.proofs.TextLemmas.{text_of_first}
use Rattle.web_call.proofs.text.Text.first.Goals as goal

pub returns : goal.returns
returns c =
    let first = c.chunk.ensures.first in
    text_of_first c.args.status c.chunk.result first.0 (c.chunk.ensures.bytes ∙ c.first_chunk.ensures) first.1 c.chunk.ensures.second first.2
