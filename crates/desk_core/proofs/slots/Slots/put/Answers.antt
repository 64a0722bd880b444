use Rattle.std.proofs.Common.{Some, slice_set, ap, ◌∙◌}
use Rattle.desk_core.proofs.slots.Slots.put.Goals as goal

pub returns-clause-there : goal.returns-clause-there
returns-clause-there g c = c.replace.ensures.there

pub returns-clause-few : goal.returns-clause-few
returns-clause-few g c = c.replace.ensures.few

pub returns-clause-after : goal.returns-clause-after
returns-clause-after g c =
    c.replace.ensures.after
    ∙ ap (λ state. slice_set c.args.self.now.places.items c.args.slot (Some state))
    (c.new.ensures ∙ ap (λ r. (r, g.P.Probe.memory c.reset.new.self)) c.reset.ensures.rule
    ∙ ap (λ m. (g.P.Probe.rule c.args.probe, m)) c.reset.ensures.memory)
