use Rattle.std.proofs.Common.{◌≡◌, ◌≤◌, arith, sym, ◌∙◌, ap, List, ℕ, Ok, rules}
use Rattle.std.proofs.lemmas.Bool.{ltb-true, ltb-false}
use Rattle.client.specs.ResponseBody.{left_of}
use Rattle.client.proofs.ReplyLemmas.{behind_bad, trailers_bad, trailers_told}
use Rattle.client.proofs.reply.hearing.with_trailers.Goals as goal

pub returns-then-has_left-clause-bad : goal.returns-then-has_left-clause-bad
returns-then-has_left-clause-bad c = λ is bytes fits ending.
    behind_bad c.args.call.method c.args.call.most bytes c.args.body.now.next c.args.body.now.more c.args.statuses.items c.args.block.now
    (ltb-true 0 (left_of c.args.body.now.next) (sym c.has_left.ensures ∙ c.if-has_left.true)) fits ending

pub returns-in_ok-to_vec-in-Ok-clause-ok : goal.returns-in_ok-to_vec-in-Ok-clause-ok
returns-in_ok-to_vec-in-Ok-clause-ok c = λ bytes head fits ending.
    let none : left_of c.args.body.now.next ≤ 0 = ltb-false 0 (left_of c.args.body.now.next) (sym c.has_left.ensures ∙ c.if-has_left.false) in
    let same : c.in-Ok.trailers.text.now ≡ c.in_ok-to_vec-in-Ok.field-0.items = search rules in
    trailers_told c.args.call.method c.args.call.most bytes c.args.body.now.next c.args.body.now.more c.args.statuses.items c.args.block.now _
    (omega arith) (c.in-Ok.ensures.value ∙ ap (λ (text : List ℕ). Ok (c.in-Ok.trailers.code, text)) same) fits ending

pub returns-in-Err-clause-bad : goal.returns-in-Err-clause-bad
returns-in-Err-clause-bad c = λ is bytes fits ending.
    trailers_bad c.args.call.method c.args.call.most bytes c.args.body.now.next c.args.body.now.more c.args.statuses.items c.args.block.now
    c.in-Err.field-0 c.in-Err.ensures.fault fits ending
