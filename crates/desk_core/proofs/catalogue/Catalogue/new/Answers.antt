use Rattle.std.proofs.Common.{refl}
use Rattle.desk_core.proofs.KeyLemmas.{keys_stay, keys_are_catalogue}
use Rattle.desk_core.proofs.catalogue.Catalogue.new.Goals as goal

pub invariant_of-result : goal.invariant_of-result
invariant_of-result c =
    keys_are_catalogue c.args.names.items c.in-Ok.names.keys c.in-Ok.ensures (rw c.deref.ensures.value at c.in-None.ensures)

pub returns-in-Ok-clause-ok : goal.returns-in-Ok-clause-ok
returns-in-Ok-clause-ok c =
    rw (keys_stay c.args.names.items c.in-Ok.names.keys c.in-Ok.ensures (rw c.deref.ensures.value at c.in-None.ensures)) refl
