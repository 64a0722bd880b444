use Rattle.std.proofs.Common.{refl, is_some}
use Rattle.reactor.specs.Table.{is_watch}
use Rattle.reactor.proofs.Counts.{count_changed}
use Rattle.reactor.proofs.laws.counts_change.Goals as goal

pub returns-clause-held : goal.returns-clause-held
returns-clause-held g c old new key place changes =
    rw changes.changed at (count_changed is_some refl old.places new.places key changes.others)

pub returns-clause-watches : goal.returns-clause-watches
returns-clause-watches g c old new key place changes =
    rw changes.changed at (count_changed is_watch refl old.places new.places key changes.others)
