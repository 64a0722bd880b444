use Rattle.std.proofs.Common.{◌∙◌, rules, arith}
use Rattle.httparse.specs.Spans.{IsRequestOf, IsRequestWithin}
use Rattle.plain.proofs.InquiryLemmas.{asks_so, is_head_of}
use Rattle.plain.proofs.inquiry.inquiry_of.Goals as goal

pub returns-clause-asked : goal.returns-clause-asked
returns-clause-asked c =
    let found : IsRequestOf c.args.head.now c.parse_request.new.headers c.in-Ok-Complete.request = search rules in
    let within : IsRequestWithin c.args.head.now c.parse_request.new.headers c.in-Ok-Complete.request = search rules in
    asks_so c.args.head.now _ _ found.0 c.inquiry_by.result
    (is_head_of c.args.head.now c.parse_request.new.headers c.in-Ok-Complete.request found.0 found.1 (grind (arith, c.if-request-head.false)) within.section.count_fits
    (search rules)) (c.of.ensures ∙ found.1.method) (c.of-2.ensures ∙ found.1.path) c.inquiry_by.ensures
