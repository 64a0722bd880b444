use Rattle.std.proofs.Common.{arith}
use Rattle.std.proofs.lemmas.List.{length-map}
use Rattle.std.proofs.lemmas.Grind.{common_steps}
use Rattle.desk_core.proofs.KeyLemmas.{list_any-map}
use Rattle.desk_core.proofs.catalogue.CatalogueFault.first_in.Goals as goal

pub returns-then-has_too_long : goal.returns-then-has_too_long
returns-then-has_too_long c = simp (length-map, list_any-map) (grind (arith, common_steps))

pub returns-then-has_double : goal.returns-then-has_double
returns-then-has_double c = simp (length-map, list_any-map) (grind (arith, common_steps))

pub returns-then-not-has_empty_name : goal.returns-then-not-has_empty_name
returns-then-not-has_empty_name c = simp (length-map, list_any-map) (grind (arith, common_steps))

pub returns-else-not-has_empty_name : goal.returns-else-not-has_empty_name
returns-else-not-has_empty_name c = simp (length-map, list_any-map) (grind (arith, common_steps))
