use Rattle.std.proofs.Common.{◌≡◌, ap, if◌then◌else◌, is_some, ◌∙◌}
use Rattle.desk_core.specs.declared.reply.Reply.TheVariants.{Done, Replaced, Missing}
use Rattle.desk_core.specs.Past.{past}
use Rattle.desk_core.specs.Present.{rule_at}
use Rattle.desk_core.specs.Shut.{is_shut}
use Rattle.desk_core.specs.Reply.{reply_to_event}
use Rattle.desk_core.proofs.desk.Desk.reply_to.Goals as goal

pub returns-in-Register : goal.returns-in-Register
returns-in-Register g c = rw c.in-Register.is (c.reply_to_register.ensures ∙ ap (λ rule. if is_some rule then Replaced else Done) c.rule.ensures)

pub returns-in-Retire : goal.returns-in-Retire
returns-in-Retire g c = rw c.in-Retire.is (c.reply_to_retire.ensures ∙ ap (λ rule. if is_some rule then Done else Missing) c.rule-in-Retire.ensures)

pub returns-in-Observe : goal.returns-in-Observe
returns-in-Observe g c =
    let shut : c.self.inside.is_shut ≡ is_shut (past c.args.self.now.journal) = c.self.invariant.0.parts.shut_is ∙ ap (λ state. is_shut (past state.journal)) c.self.view_is in
    rw c.in-Observe.is
    (c.reply_to_event.ensures ∙ ap (λ o. reply_to_event o c.self.inside.is_shut c.event.result) c.rule-in-Observe.ensures
    ∙ ap (λ b. reply_to_event (rule_at (past c.args.self.now.journal) c.in-Observe.slot) b c.event.result) shut
    ∙ ap (reply_to_event (rule_at (past c.args.self.now.journal) c.in-Observe.slot) (is_shut (past c.args.self.now.journal))) c.event.ensures)

pub returns-in-Set : goal.returns-in-Set
returns-in-Set g c =
    let shut : c.self.inside.is_shut ≡ is_shut (past c.args.self.now.journal) = c.self.invariant.0.parts.shut_is ∙ ap (λ state. is_shut (past state.journal)) c.self.view_is in
    rw c.in-Set.is
    (c.reply_to_event-in-Set.ensures ∙ ap (λ o. reply_to_event o c.self.inside.is_shut c.event-in-Set.result) c.rule-in-Set.ensures
    ∙ ap (λ b. reply_to_event (rule_at (past c.args.self.now.journal) c.in-Set.slot) b c.event-in-Set.result) shut
    ∙ ap (reply_to_event (rule_at (past c.args.self.now.journal) c.in-Set.slot) (is_shut (past c.args.self.now.journal))) c.event-in-Set.ensures)
