use Rattle.std.proofs.Common.{arith, rules, ◌<◌, ◌∙◌, ap, sym, not, ◌&&◌, true≢false}
use Rattle.std.specs.List.{list_any}
use Rattle.std.proofs.lemmas.Grind.{common_steps}
use Rattle.desk_core.specs.Past.{past}
use Rattle.desk_core.specs.Silence.{is_to_fail, retimes}
use Rattle.desk_core.proofs.SilenceLemmas.{fails_so}
use Rattle.desk_core.proofs.desk.Desk.is_to_fail.Goals as goal

pub returns-clause-value : goal.returns-clause-value
returns-clause-value g c =
    let few : c.args.slot < 16 = search rules in
    let whole =
    fails_so c.self.inside.history.journal.keep c.args.seat c.args.slot c.args.from c.self.inside.slots.places.items c.self.inside.is_shut
    c.self.inside.history.journal.items c.self.inside.max_entries c.may_fall.result c.self.invariant.0.parts few
    (λ less. true≢false (c.in-Some.ensures.forgotten.1 less)) c.may_fall.ensures.some c.may_fall.ensures.none in
    let unheard =
    ap (list_any (λ entry. retimes c.args.seat c.args.slot entry)) (sym c.in-Some.ensures.items) ∙ (sym c.is_retimed.ensures ∙ c.if-is_retimed.false) in
    sym (ap (λ b. not b && (not c.self.inside.is_shut && c.may_fall.result)) unheard ∙ ap (λ b. not b && c.may_fall.result) c.if-self.false)
    ∙ whole
    ∙ ap (λ kept. is_to_fail kept c.args.seat c.args.slot c.args.from (past c.self.inside.history.journal.items)) c.self.invariant.1
    ∙ ap (λ state. is_to_fail g.K.Keep.kept c.args.seat c.args.slot c.args.from (past state.journal)) c.self.view_is

pub returns-in_default-clause-value : goal.returns-in_default-clause-value
returns-in_default-clause-value g c = grind (arith, common_steps)
