use Rattle.std.proofs.Common.{◌≡◌, [], ◌∷◌, ◌++◌, List, map, ap, ◌∙◌, rules}
use Rattle.std.proofs.lemmas.List.{map_push}
use Rattle.health_wire.specs.Field.{WireField, field_of}
use Rattle.health_wire.proofs.MessageLemmas.{next}
use Rattle.health_wire.proofs.message.fields.Goals as goal

pub loop-rest-preserved : goal.loop-rest-preserved
loop-rest-preserved c =
    let pushed : c.push.new.self.items ≡ c.loop-rest.fields.items ++ c.in_ok-field.field ∷ [] = search rules in
    next (λ (fields : List WireField). fields) _ _ _ _ _ _ c.loop-rest.invariant c.in_ok-field.ensures.found
    (λ fields read. ap (map field_of) pushed ∙ map_push field_of _ _ ∙ ap (λ xs. xs ++ field_of c.in_ok-field.field ∷ []) read)
