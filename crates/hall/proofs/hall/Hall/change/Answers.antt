use Rattle.std.proofs.Common.{List, ◌∷◌, Ok, Err, ap, sym, subst, arith, ◌∙◌}
use Rattle.desk_core.specs.declared.entry.Entry.{Entry}
use Rattle.desk_core.specs.Desk.{probe_of}
use Rattle.desk_core.specs.Legal.{IsLegal}
use Rattle.desk_core.specs.Mutation.{entry_of}
use Rattle.hall.specs.Seats.{SeatState}
use Rattle.hall.specs.Steps.{HasDesk, seen_in}
use Rattle.hall.proofs.Taken.{may_commit, may_count, may_leave, carried_out, not_carried_out, newest, unchanged, before_newest, seat_taken, seat_kept, shows_seen, own_entry, has_rest}
use Rattle.hall.proofs.Reread.{as_long}
use Rattle.hall.proofs.hall.Hall.change.Goals as goal

pub returns-in_default-clause-answered : goal.returns-in_default-clause-answered
returns-in_default-clause-answered g c =
    not_carried_out c.args.seat.now c.args.call c.in_default.is (subst (λ (s : SeatState). IsLegal s.seen) c.seat.view_is c.seat.invariant.legal)

pub finish-requires-clause-desk : goal.finish-requires-clause-desk
finish-requires-clause-desk g c =
    let waiting = c.enter-desk.new.place.me in
    subst (λ seat. HasDesk waiting seat c.change.new.self.max_entries (seen_in waiting)) (sym (ap (λ e. e.seat) (own_entry _ _ c.seat.inside.number _ _ c.entry-entry.ensures (omega arith))))
    (may_commit c.seat.inside.place.me waiting c.seat.inside.number c.seat.inside.made c.enter-desk.result c.change.new.self
    (record { seat = c.seat.invariant; limit = c.enter-desk.ensures.limit; has = c.enter-desk.ensures.desk; follows = c.enter-desk.ensures.follows })
    c.in-Ok.ensures.answered.most)

pub finish-requires-clause-newest : goal.finish-requires-clause-newest
finish-requires-clause-newest g c =
    newest _ _ _ _ _ c.in-Ok.ensures.answered ∙ ap (λ (h : List Entry). entry_of c.seat.inside.number c.in-Some.call c.in-Ok.made.reply ∷ h) (sym (ap seen_in c.enter-desk.ensures.desk.1))
    ∙ ap (λ e. e ∷ seen_in c.enter-desk.new.place.me) (sym (own_entry _ _ c.seat.inside.number _ _ c.entry-entry.ensures (omega arith)))

pub finish-requires-clause-limit : goal.finish-requires-clause-limit
finish-requires-clause-limit g c =
    may_count c.seat.inside.place.me c.enter-desk.new.place.me c.seat.inside.number c.seat.inside.made c.enter-desk.result
    (record { seat = c.seat.invariant; limit = c.enter-desk.ensures.limit; has = c.enter-desk.ensures.desk; follows = c.enter-desk.ensures.follows })

pub invariant_of-seat : goal.invariant_of-seat
invariant_of-seat g c =
    seat_taken c.seat.inside.place.me c.enter-desk.new.place.me _ _ c.seat.inside.made _ c.entry-entry.result.seat c.enter-desk.result _ _ _
    (record { seat = c.seat.invariant; limit = c.enter-desk.ensures.limit; has = c.enter-desk.ensures.desk; follows = c.enter-desk.ensures.follows })
    c.in-Ok.ensures.answered (ap (λ e. e.seat) (own_entry _ _ c.seat.inside.number _ _ c.entry-entry.ensures (omega arith))) c.finish.ensures.rests c.finish.ensures.made c.finish.ensures.legal

pub leave-requires-clause-desk : goal.leave-requires-clause-desk
leave-requires-clause-desk g c =
    may_leave c.seat.inside.place.me c.enter-desk.new.place.me c.seat.inside.number c.seat.inside.made c.enter-desk.result c.change.new.self
    (record { seat = c.seat.invariant; limit = c.enter-desk.ensures.limit; has = c.enter-desk.ensures.desk; follows = c.enter-desk.ensures.follows })
    (unchanged _ _ _ _ _ c.in-Err.ensures.answered)

pub invariant_of-seat-in-Err : goal.invariant_of-seat-in-Err
invariant_of-seat-in-Err g c =
    seat_kept c.seat.inside.place.me c.enter-desk.new.place.me _ _ _ c.enter-desk.result _ _ _
    (record { seat = c.seat.invariant; limit = c.enter-desk.ensures.limit; has = c.enter-desk.ensures.desk; follows = c.enter-desk.ensures.follows })
    c.in-Err.ensures.answered c.leave.ensures.rests

pub returns-in-Ok-clause-answered : goal.returns-in-Ok-clause-answered
returns-in-Ok-clause-answered g c =
    rw c.in-Some.is
    (carried_out c.args.seat.now c.seat.inside.place.table_id c.finish.new.place.table_id c.seat.inside.place.me c.enter-desk.new.place.me c.finish.new.place.me c.seat.inside.number c.seat.inside.made
    c.entry-entry.result.seat c.enter-desk.result c.change.new.self c.in-Some.call (Ok c.in-Ok.made.reply) c.seat.view_is
    (record { seat = c.seat.invariant; limit = c.enter-desk.ensures.limit; has = c.enter-desk.ensures.desk; follows = c.enter-desk.ensures.follows })
    (c.finish.ensures.place ∙ c.enter-desk.ensures.place) c.in-Ok.ensures.answered c.finish.ensures.rests)

pub returns-in-Ok-clause-old : goal.returns-in-Ok-clause-old
returns-in-Ok-clause-old g c =
    rw c.in-Some.is
    (c.in-Ok.ensures.old
    ∙ ap (λ (h : List Entry). probe_of h c.in-Some.call)
    (sym (before_newest c.finish.new.place.me c.entry-entry.result.seat c.seat.inside.number c.enter-desk.result c.change.new.self c.in-Some.call
    c.in-Ok.made.reply c.in-Ok.ensures.answered c.finish.ensures.rests)))

pub returns-in-Err-clause-answered : goal.returns-in-Err-clause-answered
returns-in-Err-clause-answered g c =
    rw c.in-Some.is
    (carried_out c.args.seat.now c.seat.inside.place.table_id c.leave.new.place.table_id c.seat.inside.place.me c.enter-desk.new.place.me c.leave.new.place.me c.seat.inside.number c.seat.inside.made
    _ c.enter-desk.result c.change.new.self c.in-Some.call (Err c.in-Err.refused.0) c.seat.view_is
    (record { seat = c.seat.invariant; limit = c.enter-desk.ensures.limit; has = c.enter-desk.ensures.desk; follows = c.enter-desk.ensures.follows })
    (c.leave.ensures.place ∙ c.enter-desk.ensures.place) c.in-Err.ensures.answered c.leave.ensures.rests)

pub returns-in-Ok-clause-shows : goal.returns-in-Ok-clause-shows
returns-in-Ok-clause-shows g c = shows_seen _ _ _ c.change.new.self c.in-Ok.ensures.shows c.finish.ensures.rests

pub returns-in-Ok-clause-placed : goal.returns-in-Ok-clause-placed
returns-in-Ok-clause-placed g c = as_long c.finish.new.place.me _ _ c.change.new.self.journal c.finish.ensures.rests ∙ c.in-Ok.ensures.placed.1

pub enter-desk-requires-clause-rests : goal.enter-desk-requires-clause-rests
enter-desk-requires-clause-rests g c = has_rest c.seat.inside.place.me c.seat.inside.number c.seat.inside.made c.seat.invariant
