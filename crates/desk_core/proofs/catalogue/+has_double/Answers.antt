use Rattle.desk_core.proofs.KeyLemmas.{has_double-first}
use Rattle.desk_core.proofs.catalogue.+has_double.Goals as goal

pub returns-then-contains : goal.returns-then-contains
returns-then-contains t c =
    rw (has_double-first c.args.names.now c.name-item.result c.in-len1-up.len_at_least c.name-item.is, ← c.if-contains.ensures.value) c.if-contains.true

pub returns-else-contains : goal.returns-else-contains
returns-else-contains t c =
    rw (has_double-first c.args.names.now c.name-item.result c.in-len1-up.len_at_least c.name-item.is, ← c.if-contains.ensures.value) c.has_double.ensures
