use Rattle.std.proofs.Common.{◌≡◌, Some, length, slice_set, refl, ap, subst, ◌∙◌}
use Rattle.std.proofs.lemmas.List.{length-map, length-set}
use Rattle.probe_core.specs.Rule.{opening_memory}
use Rattle.desk_core.specs.Slots.{IsHeard, was_reset}
use Rattle.desk_core.proofs.SlotLemmas.{heard_length, registered_rule}
use Rattle.desk_core.proofs.slots.Slots.apply.Goals as goal

pub returns-in-Register-clause-applied : goal.returns-in-Register-clause-applied
returns-in-Register-clause-applied g c =
    let ruled : g.P.Probe.rule c.unwrap.result ≡ c.in-Register.field-1 =
    registered_rule g.P.Probe.rule c.args.probe c.unwrap.result c.args.call.now c.in-Register.slot c.in-Register.field-1 c.requires.ruled c.unwrap.ensures c.in-Register.is in
    rw c.in-Register.is (
      c.put.ensures.there,
      c.put.ensures.after ∙ ap (λ rule. slice_set c.args.self.now.places.items c.in-Register.slot (Some (rule, opening_memory rule))) ruled,
    )

pub returns-in-Register-clause-old : goal.returns-in-Register-clause-old
returns-in-Register-clause-old g c = rw c.in-Register.is c.put.ensures.old

pub returns-in-Register-clause-from : goal.returns-in-Register-clause-from
returns-in-Register-clause-from g c = rw c.in-Register.is c.put.ensures.few

pub returns-in-Register-clause-places : goal.returns-in-Register-clause-places
returns-in-Register-clause-places g c = ap length c.put.ensures.after ∙ length-set _ _ _

pub returns-in-Retire-clause-applied : goal.returns-in-Retire-clause-applied
returns-in-Retire-clause-applied g c = rw c.in-Retire.is c.take.ensures.after

pub returns-in-Retire-clause-from : goal.returns-in-Retire-clause-from
returns-in-Retire-clause-from g c = rw c.in-Retire.is c.take.ensures.few

pub returns-in-Retire-clause-places : goal.returns-in-Retire-clause-places
returns-in-Retire-clause-places g c = ap length c.take.ensures.after ∙ length-set _ _ _

pub returns-in-Observe-clause-applied : goal.returns-in-Observe-clause-applied
returns-in-Observe-clause-applied g c =
    rw c.in-Observe.is (subst (λ event. IsHeard c.in-Observe.slot event c.args.reply c.args.self.now.places.items c.hear.new.self.places.items) c.event.ensures c.hear.ensures)

pub returns-in-Observe-clause-old : goal.returns-in-Observe-clause-old
returns-in-Observe-clause-old g c = rw c.in-Observe.is refl

pub returns-in-Observe-clause-from : goal.returns-in-Observe-clause-from
returns-in-Observe-clause-from g c = rw c.in-Observe.is tt

pub returns-in-Observe-clause-places : goal.returns-in-Observe-clause-places
returns-in-Observe-clause-places g c = heard_length _ _ _ _ _ c.hear.ensures

pub returns-in-Set-clause-applied : goal.returns-in-Set-clause-applied
returns-in-Set-clause-applied g c =
    rw c.in-Set.is (subst (λ event. IsHeard c.in-Set.slot event c.args.reply c.args.self.now.places.items c.hear-in-Set.new.self.places.items) c.event-in-Set.ensures c.hear-in-Set.ensures)

pub returns-in-Set-clause-old : goal.returns-in-Set-clause-old
returns-in-Set-clause-old g c = rw c.in-Set.is refl

pub returns-in-Set-clause-from : goal.returns-in-Set-clause-from
returns-in-Set-clause-from g c = rw c.in-Set.is tt

pub returns-in-Set-clause-places : goal.returns-in-Set-clause-places
returns-in-Set-clause-places g c = heard_length _ _ _ _ _ c.hear-in-Set.ensures

pub returns-in-Shutdown-clause-applied : goal.returns-in-Shutdown-clause-applied
returns-in-Shutdown-clause-applied g c = rw c.in-Shutdown.is refl

pub returns-in-Shutdown-clause-old : goal.returns-in-Shutdown-clause-old
returns-in-Shutdown-clause-old g c = rw c.in-Shutdown.is refl

pub returns-in-Shutdown-clause-from : goal.returns-in-Shutdown-clause-from
returns-in-Shutdown-clause-from g c = rw c.in-Shutdown.is tt

pub returns-in-Resume-clause-applied : goal.returns-in-Resume-clause-applied
returns-in-Resume-clause-applied g c = rw c.in-Resume.is c.reset.ensures

pub returns-in-Resume-clause-old : goal.returns-in-Resume-clause-old
returns-in-Resume-clause-old g c = rw c.in-Resume.is refl

pub returns-in-Resume-clause-from : goal.returns-in-Resume-clause-from
returns-in-Resume-clause-from g c = rw c.in-Resume.is tt

pub returns-in-Resume-clause-places : goal.returns-in-Resume-clause-places
returns-in-Resume-clause-places g c = ap length c.reset.ensures ∙ length-map c.args.self.now.places.items was_reset
