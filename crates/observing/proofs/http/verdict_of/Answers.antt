use Rattle.std.proofs.Common.{rules, ◌≡◌, length}
use Rattle.std.proofs.lemmas.Bool.Decides.{nat_tests}
use Rattle.std.proofs.lemmas.List.{nil_from_length}
use Rattle.observing.specs.HttpAnswer.LineTells.{ByStatus}
use Rattle.observing.proofs.HttpLemmas.{found}
use Rattle.observing.proofs.http.verdict_of.Goals as goal

pub returns-then-response-head : goal.returns-then-response-head
returns-then-response-head c =
    let response = c.in-Ok-Complete.response in
    let headers = c.parse_response.new.headers in
    let same : response.len ≡ length c.args.head.now = search (rules, nat_tests) in
    let none = nil_from_length headers (search rules) in
    ByStatus response.code (found c.args.head.now c.args.line.now headers response c.requires (rw c.in-Ok-Complete.field-0-is at c.in-Ok-Complete.ensures.complete) same none) c.verdict_on.ensures
