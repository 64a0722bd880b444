use Rattle.std.proofs.Common.{None, ◌∙◌}
use Rattle.std.proofs.Math.Nat.{le_refl}
use Rattle.desk_core.proofs.ElementLemmas.{same_place}
use Rattle.desk_core.proofs.slots.Slots.get.Goals as goal

pub returns-in-Some : goal.returns-in-Some
returns-in-Some g c =
    c.as_ref.ensures.value ∙ (c.in-Some.ensures.lookup.3.1 None ∙ same_place _ _ _ _ _ None c.deref.ensures.value c.from.ensures c.number.ensures.value)

pub returns-in-None : goal.returns-in-None
returns-in-None g c = c.in-None.ensures.lookup.4 (le_refl _) None ∙ same_place _ _ _ _ _ None c.deref.ensures.value c.from.ensures c.number.ensures.value
