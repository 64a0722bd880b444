use Rattle.std.proofs.Common.{◌≡◌, ◌≢◌, length, arith, sym, ◌∙◌, ap}
use Rattle.std.proofs.lemmas.Bool.{eqb-true, eqb-false}
use Rattle.client.proofs.ReplyLemmas.{cut_bad, check_bad, watch_told}
use Rattle.client.proofs.reply.hearing.settled.Goals as goal

pub returns-then-not-is_empty-clause-bad : goal.returns-then-not-is_empty-clause-bad
returns-then-not-is_empty-clause-bad c = λ bytes going.
    let some : length c.rest.result.now ≢ 0 = eqb-false (length c.rest.result.now) 0 (sym c.is_empty.ensures ∙ c.if-not-is_empty.true) in
    let same : length c.rest.result.now ≡ length c.args.heard.splitter = ap length c.rest.ensures in
    cut_bad c.args.call.method c.args.call.most bytes c.args.body.next c.args.body.more c.args.heard.statuses.items c.args.heard.splitter c.args.body.some
    (omega arith) (omega arith) going

pub returns-then-not-may_be_cut-clause-bad : goal.returns-then-not-may_be_cut-clause-bad
returns-then-not-may_be_cut-clause-bad c = λ bytes going.
    let empty : length c.rest.result.now ≡ 0 = eqb-true (length c.rest.result.now) 0 (sym c.is_empty.ensures ∙ c.if-not-is_empty.false) in
    check_bad c.args.call.method c.args.call.most bytes c.args.body.next c.args.body.more c.args.heard.statuses.items c.args.heard.splitter c.args.body.some
    (omega arith) (ap length (sym c.rest.ensures) ∙ empty) (c.may_be_cut.ensures.check c.if-not-may_be_cut.true) going

pub returns-clause-ok : goal.returns-clause-ok
returns-clause-ok c = λ bytes head going.
    let empty : length c.rest.result.now ≡ 0 = eqb-true (length c.rest.result.now) 0 (sym c.is_empty.ensures ∙ c.if-not-is_empty.false) in
    watch_told c.args.call.method c.args.call.most bytes c.args.body.next c.args.body.more c.args.heard.statuses.items c.args.heard.splitter c.args.body.some
    (omega arith) (ap length (sym c.rest.ensures) ∙ empty) (c.may_be_cut.ensures.watch c.if-not-may_be_cut.false) going
