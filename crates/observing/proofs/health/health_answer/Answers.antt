use Rattle.std.proofs.Common.{rules, ◌≡◌, length}
use Rattle.std.proofs.lemmas.Bool.Decides.{nat_tests}
use Rattle.std.proofs.lemmas.List.{nil_from_length}
use Rattle.observing.proofs.HealthLemmas.{told, bad, refused, open_to_the_end}
use Rattle.observing.proofs.health.health_answer.Goals as goal

pub returns-in-Ok : goal.returns-in-Ok
returns-in-Ok c = rw c.verdict_by.ensures (told c.args.bytes.now c.ask.new.reader.now c.in-Ok.told c.in-Ok.ensures.response)

pub returns-in-Err-BadResponse : goal.returns-in-Err-BadResponse
returns-in-Err-BadResponse c =
    bad c.args.bytes.now c.ask.new.reader.now (rw c.in-Err-BadResponse.field-0-is at c.in-Err-BadResponse.ensures.response)

pub returns-in-Err-Http : goal.returns-in-Err-Http
returns-in-Err-Http c =
    refused c.args.bytes.now c.ask.new.reader.now c.in-Err-Http.status (rw c.in-Err-Http.field-0-is at c.in-Err-Http.ensures.response)

pub returns-in-Err-Read : goal.returns-in-Err-Read
returns-in-Err-Read c =
    let none : length c.ask.new.reader.now ≡ 0 = search (rules, nat_tests) in
    c.more_of.ensures (open_to_the_end c.args.bytes.now c.ask.new.reader.now (rw c.in-Err-Read.field-0-is at c.in-Err-Read.ensures.response) (nil_from_length c.ask.new.reader.now none))
