use Rattle.std.proofs.Common.{refl, ap, ◌∙◌}
use Rattle.std.specs.Option.{option_map}
use Rattle.desk_core.specs.Board.{packed, status_in}
use Rattle.desk_core.specs.Slots.{covers_below, status_from, with_status}
use Rattle.desk_core.proofs.cache.Cache.refresh_slot.Goals as goal

pub returns-then-not-has_slot-clause-unmarked : goal.returns-then-not-has_slot-clause-unmarked
returns-then-not-has_slot-clause-unmarked g c is = refl

pub returns-then-not-has_slot-clause-marked : goal.returns-then-not-has_slot-clause-marked
returns-then-not-has_slot-clause-marked g c is =
    let has = c.has_slot.ensures in
    let not = c.if-not-has_slot.true in cc

pub returns-then-not-has_slot-clause-same : goal.returns-then-not-has_slot-clause-same
returns-then-not-has_slot-clause-same g c is = refl

pub returns-then-not-has_slot-clause-changed : goal.returns-then-not-has_slot-clause-changed
returns-then-not-has_slot-clause-changed g c not = absurd (not refl)

pub returns-then-eq-clause-unmarked : goal.returns-then-eq-clause-unmarked
returns-then-eq-clause-unmarked g c is =
    let has = c.has_slot.ensures in
    let not = c.if-not-has_slot.false in cc

pub returns-then-eq-clause-marked : goal.returns-then-eq-clause-marked
returns-then-eq-clause-marked g c is =
    let statuses = c.args.self.now.statuses in
    c.set.ensures
    ∙ ap (λ status. packed (with_status (status_in statuses) c.args.slot status) 16)
    (c.status_of-status.ensures ∙ ap (option_map (status_from (covers_below (status_in statuses) 16) c.args.is_shut)) c.get.ensures)

pub returns-then-eq-clause-same : goal.returns-then-eq-clause-same
returns-then-eq-clause-same g c is = refl

pub returns-else-eq-clause-unmarked : goal.returns-else-eq-clause-unmarked
returns-else-eq-clause-unmarked g c is =
    let has = c.has_slot.ensures in
    let not = c.if-not-has_slot.false in cc

pub returns-else-eq-clause-marked : goal.returns-else-eq-clause-marked
returns-else-eq-clause-marked g c is =
    let statuses = c.args.self.now.statuses in
    c.set.ensures
    ∙ ap (λ status. packed (with_status (status_in statuses) c.args.slot status) 16)
    (c.status_of-status.ensures ∙ ap (option_map (status_from (covers_below (status_in statuses) 16) c.args.is_shut)) c.get.ensures)
