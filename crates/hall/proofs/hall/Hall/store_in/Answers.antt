use Rattle.std.proofs.Common.{◌≡◌, length, refl, sym, ap, subst, arith, ◌∙◌}
use Rattle.std.proofs.lemmas.List.{length-reverse}
use Rattle.desk_core.specs.Left.{Holds}
use Rattle.hall.specs.Seats.{SeatState}
use Rattle.hall.specs.Steps.{seen_in}
use Rattle.hall.proofs.StoreLemmas.{all_seen, journal_of, same_seat}
use Rattle.hall.proofs.Taken.{may_leave, has_rest}
use Rattle.hall.proofs.GivenBack.{gone_on, seat_left}
use Rattle.hall.proofs.hall.Hall.store_in.Goals as goal

pub stored_in-requires-clause-stands : goal.stored_in-requires-clause-stands
stored_in-requires-clause-stands g c =
    let same = c.if-board_entries-entries.false in
    let many : length c.enter-desk.result.journal ≡ length (seen_in c.seat.inside.place.me) =
    omega (arith, same, c.requires.seen, ap (λ (s : SeatState). length s.seen) c.seat.view_is, c.board_entries.ensures.board _ c.board.ensures.word, length-reverse c.enter-desk.result.journal) in
    subst (g.K.Keep.stands c.args.store) (sym (journal_of c.seat.inside.place.me _ c.enter-desk.result (all_seen c.seat.inside.place.me c.enter-desk.new.place.me c.seat.inside.number c.seat.inside.made c.enter-desk.result (record { seat = c.seat.invariant; limit = c.enter-desk.ensures.limit; has = c.enter-desk.ensures.desk; follows = c.enter-desk.ensures.follows }) many) (ap (λ (s : SeatState). s.seen) c.seat.view_is))) c.requires.stands

pub stored_in-requires-clause-holds : goal.stored_in-requires-clause-holds
stored_in-requires-clause-holds g c =
    let same = c.if-board_entries-entries.false in
    let many : length c.enter-desk.result.journal ≡ length (seen_in c.seat.inside.place.me) =
    omega (arith, same, c.requires.seen, ap (λ (s : SeatState). length s.seen) c.seat.view_is, c.board_entries.ensures.board _ c.board.ensures.word, length-reverse c.enter-desk.result.journal) in
    subst (Holds (g.K.Keep.left c.args.store)) (sym (journal_of c.seat.inside.place.me _ c.enter-desk.result (all_seen c.seat.inside.place.me c.enter-desk.new.place.me c.seat.inside.number c.seat.inside.made c.enter-desk.result (record { seat = c.seat.invariant; limit = c.enter-desk.ensures.limit; has = c.enter-desk.ensures.desk; follows = c.enter-desk.ensures.follows }) many) (ap (λ (s : SeatState). s.seen) c.seat.view_is))) c.requires.holds

pub leave-requires-2-clause-desk : goal.leave-requires-2-clause-desk
leave-requires-2-clause-desk g c =
    may_leave c.seat.inside.place.me c.enter-desk.new.place.me c.seat.inside.number c.seat.inside.made c.enter-desk.result c.stored_in.result (record { seat = c.seat.invariant; limit = c.enter-desk.ensures.limit; has = c.enter-desk.ensures.desk; follows = c.enter-desk.ensures.follows })
    (rw c.stored_in.ensures (record { limit = refl; history = refl }))

pub returns-clause-same : goal.returns-clause-same
returns-clause-same g c =
    let same = c.if-board_entries-entries.false in
    let many : length c.enter-desk.result.journal ≡ length (seen_in c.seat.inside.place.me) =
    omega (arith, same, c.requires.seen, ap (λ (s : SeatState). length s.seen) c.seat.view_is, c.board_entries.ensures.board _ c.board.ensures.word, length-reverse c.enter-desk.result.journal) in
    same_seat _ _ _ c.seat.inside.place.me c.enter-desk.new.place.me _ c.seat.inside.number c.seat.inside.made c.enter-desk.result c.stored_in.result c.seat.view_is (record { seat = c.seat.invariant; limit = c.enter-desk.ensures.limit; has = c.enter-desk.ensures.desk; follows = c.enter-desk.ensures.follows }) (c.leave-2.ensures.place ∙ c.enter-desk.ensures.place)
    (all_seen c.seat.inside.place.me c.enter-desk.new.place.me c.seat.inside.number c.seat.inside.made c.enter-desk.result (record { seat = c.seat.invariant; limit = c.enter-desk.ensures.limit; has = c.enter-desk.ensures.desk; follows = c.enter-desk.ensures.follows }) many) (rw c.stored_in.ensures (record { limit = refl; history = refl })) c.leave-2.ensures.rests

pub leave-requires-clause-desk : goal.leave-requires-clause-desk
leave-requires-clause-desk g c =
    may_leave c.seat.inside.place.me c.enter-desk.new.place.me c.seat.inside.number c.seat.inside.made c.enter-desk.result c.enter-desk.result
    (record { seat = c.seat.invariant; limit = c.enter-desk.ensures.limit; has = c.enter-desk.ensures.desk; follows = c.enter-desk.ensures.follows }) (record { limit = refl; history = refl })

pub returns-clause-goes_on : goal.returns-clause-goes_on
returns-clause-goes_on g c =
    gone_on _ c.seat.inside.place.table_id _ c.seat.inside.place.me c.enter-desk.new.place.me c.leave-2.new.place.me c.seat.inside.number c.seat.inside.made c.enter-desk.result c.stored_in.result c.seat.view_is
    (record { seat = c.seat.invariant; limit = c.enter-desk.ensures.limit; has = c.enter-desk.ensures.desk; follows = c.enter-desk.ensures.follows }) (c.leave-2.ensures.place ∙ c.enter-desk.ensures.place)
    (rw c.stored_in.ensures (record { limit = refl; history = refl })) c.leave-2.ensures.rests

pub enter-desk-requires-clause-rests : goal.enter-desk-requires-clause-rests
enter-desk-requires-clause-rests g c = has_rest c.seat.inside.place.me c.seat.inside.number c.seat.inside.made c.seat.invariant

pub invariant_of-seat : goal.invariant_of-seat
invariant_of-seat g c =
    seat_left c.seat.inside.place.me c.enter-desk.new.place.me c.leave.new.place.me c.seat.inside.number c.seat.inside.made c.enter-desk.result c.enter-desk.result
    (record { seat = c.seat.invariant; limit = c.enter-desk.ensures.limit; has = c.enter-desk.ensures.desk; follows = c.enter-desk.ensures.follows }) (record { limit = refl; history = refl }) c.leave.ensures.rests

pub invariant_of-seat-2 : goal.invariant_of-seat-2
invariant_of-seat-2 g c =
    seat_left c.seat.inside.place.me c.enter-desk.new.place.me c.leave-2.new.place.me c.seat.inside.number c.seat.inside.made c.enter-desk.result c.stored_in.result
    (record { seat = c.seat.invariant; limit = c.enter-desk.ensures.limit; has = c.enter-desk.ensures.desk; follows = c.enter-desk.ensures.follows }) (rw c.stored_in.ensures (record { limit = refl; history = refl })) c.leave-2.ensures.rests

pub returns-then-board_entries-entries-clause-goes_on : goal.returns-then-board_entries-entries-clause-goes_on
returns-then-board_entries-entries-clause-goes_on g c =
    gone_on _ c.seat.inside.place.table_id _ c.seat.inside.place.me c.enter-desk.new.place.me c.leave.new.place.me c.seat.inside.number c.seat.inside.made c.enter-desk.result c.enter-desk.result c.seat.view_is
    (record { seat = c.seat.invariant; limit = c.enter-desk.ensures.limit; has = c.enter-desk.ensures.desk; follows = c.enter-desk.ensures.follows }) (c.leave.ensures.place ∙ c.enter-desk.ensures.place)
    (record { limit = refl; history = refl }) c.leave.ensures.rests
