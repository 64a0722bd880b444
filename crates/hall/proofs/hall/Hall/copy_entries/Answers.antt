use Rattle.std.proofs.Common.{◌≡◌, ◌<◌, ◌-◌, ◌↔◌, ◌++◌, List, take, drop, refl, sym, subst, ◌∙◌}
use Rattle.std.specs.Prelude.{IsTrue, IsFalse, vec_len, vec_capacity}
use Rattle.hall.proofs.Taken.{may_leave, has_rest}
use Rattle.hall.proofs.GivenBack.{seat_left, gone_on, own_kept}
use Rattle.tail.specs.Tail.{forgotten}
use Rattle.desk_core.specs.declared.entry.Entry.{Entry}
use Rattle.hall.proofs.Reread.{as_long, reread}
use Rattle.hall.proofs.hall.Hall.copy_entries.Goals as goal

pub leave-requires-clause-desk : goal.leave-requires-clause-desk
leave-requires-clause-desk g c =
    may_leave c.seat.inside.place.me c.enter-desk.new.place.me c.seat.inside.number c.seat.inside.made c.enter-desk.result c.enter-desk.result
    (record { seat = c.seat.invariant; limit = c.enter-desk.ensures.limit; has = c.enter-desk.ensures.desk; follows = c.enter-desk.ensures.follows }) (record { limit = refl; history = refl })

pub invariant_of-seat : goal.invariant_of-seat
invariant_of-seat g c =
    seat_left c.seat.inside.place.me c.enter-desk.new.place.me c.leave.new.place.me c.seat.inside.number c.seat.inside.made c.enter-desk.result c.enter-desk.result
    (record { seat = c.seat.invariant; limit = c.enter-desk.ensures.limit; has = c.enter-desk.ensures.desk; follows = c.enter-desk.ensures.follows }) (record { limit = refl; history = refl }) c.leave.ensures.rests

pub returns-clause-goes_on : goal.returns-clause-goes_on
returns-clause-goes_on g c =
    gone_on _ c.seat.inside.place.table_id _ c.seat.inside.place.me c.enter-desk.new.place.me c.leave.new.place.me c.seat.inside.number c.seat.inside.made c.enter-desk.result c.enter-desk.result c.seat.view_is
    (record { seat = c.seat.invariant; limit = c.enter-desk.ensures.limit; has = c.enter-desk.ensures.desk; follows = c.enter-desk.ensures.follows }) (c.leave.ensures.place ∙ c.enter-desk.ensures.place) (record { limit = refl; history = refl }) c.leave.ensures.rests

pub returns-clause-kept : goal.returns-clause-kept
returns-clause-kept g c =
    own_kept _ c.seat.inside.place.table_id c.leave.new.place.table_id c.seat.inside.place.me c.enter-desk.new.place.me c.leave.new.place.me c.seat.inside.number c.seat.inside.made c.enter-desk.result c.enter-desk.result c.seat.view_is
    (record { seat = c.seat.invariant; limit = c.enter-desk.ensures.limit; has = c.enter-desk.ensures.desk; follows = c.enter-desk.ensures.follows }) (record { limit = refl; history = refl }) c.leave.ensures.rests

pub returns-clause-forgotten : goal.returns-clause-forgotten
returns-clause-forgotten g c =
    subst (λ n. IsFalse c.copy_entries-is_kept.result ↔ (c.args.from < forgotten g.K.Keep.kept n)) (sym (as_long c.leave.new.place.me _ _ c.enter-desk.result.journal c.leave.ensures.rests))
    c.copy_entries-is_kept.ensures.forgotten

pub returns-clause-copied : goal.returns-clause-copied
returns-clause-copied g c =
    subst (λ (journal : List Entry). IsTrue c.copy_entries-is_kept.result → c.copy_entries-is_kept.new.entries.items
    ≡ c.args.entries.now.items ++ take (vec_capacity c.args.entries.now - vec_len c.args.entries.now) (drop c.args.from journal))
    (sym (reread c.leave.new.place.me _ _ c.enter-desk.result.journal c.leave.ensures.rests)) c.copy_entries-is_kept.ensures.copied

pub enter-desk-requires-clause-rests : goal.enter-desk-requires-clause-rests
enter-desk-requires-clause-rests g c = has_rest c.seat.inside.place.me c.seat.inside.number c.seat.inside.made c.seat.invariant
