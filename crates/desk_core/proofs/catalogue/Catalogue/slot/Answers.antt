use Rattle.std.proofs.Common.{◌<◌, ◌∙◌, arith, string_bytes}
use Rattle.std.proofs.lemmas.List.{length-map}
use Rattle.std.specs.Str.{bytes_eq}
use Rattle.desk_core.proofs.KeyLemmas.{position-map, slot_is}
use Rattle.desk_core.proofs.catalogue.Catalogue.slot.Goals as goal

pub returns-in_err-place-clause-value : goal.returns-in_err-place-clause-value
returns-in_err-place-clause-value c =
    rw (← c.self.view_is, position-map (bytes_eq c.args.name.now) string_bytes c.self.inside.names.keys) (c.from_residual.ensures ∙ c.in_err-place.ensures.index)

pub returns-clause-value : goal.returns-clause-value
returns-clause-value c =
    let below : c.in_ok-place.place < 16 = omega (arith, length-map c.self.inside.names.keys string_bytes, c.in_ok-place.ensures.within) in
    let is = slot_is c.new.result c.in_ok-place.place c.new.ensures.some c.new.ensures.value below in
    rw (← c.self.view_is, position-map (bytes_eq c.args.name.now) string_bytes c.self.inside.names.keys) (is ∙ c.in_ok-place.ensures.index)
