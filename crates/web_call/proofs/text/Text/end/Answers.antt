use Rattle.std.proofs.Common.{◌∙◌}
use Rattle.web_call.proofs.TextLemmas.{text_of_end}
use Rattle.web_call.proofs.text.Text.end.Goals as goal

pub returns : goal.returns
returns c =
    let first = c.chunk.ensures.first in
    text_of_end c.chunk.result first.0 (c.chunk.ensures.bytes ∙ c.end_chunk.ensures) first.1 c.chunk.ensures.second first.2
