use Rattle.client.proofs.HeadLemmas.{framed_by_fault, framed_by_lines}
use Rattle.client.proofs.http_framing.framing_of.Goals as goal

pub returns-then-response-ne-OK-clause-says : goal.returns-then-response-ne-OK-clause-says
returns-then-response-ne-OK-clause-says c =
    framed_by_fault c.args.method c.args.head.now c.parse_response.new.headers c.in-Ok-Complete.response c.if-is_too_large.ensures
    (rw c.in-Ok-Complete.field-0-is at c.in-Ok-Complete.ensures.complete) c.parse_response.auto.headers c.if-response-head.false c.if-response-ne-OK.true

pub returns-clause-says : goal.returns-clause-says
returns-clause-says c =
    framed_by_lines c.args.method c.args.head.now c.parse_response.new.headers c.in-Ok-Complete.response c.framing_in.result c.if-is_too_large.ensures
    (rw c.in-Ok-Complete.field-0-is at c.in-Ok-Complete.ensures.complete) c.parse_response.auto.headers c.if-response-head.false c.if-response-ne-OK.false c.framing_in.ensures.says
