use Rattle.std.proofs.Common.{refl, ◌∙◌, length, ap, sym}
use Rattle.hall.proofs.Taken.{may_leave, has_rest}
use Rattle.hall.proofs.GivenBack.{seat_left, gone_on}
use Rattle.hall.specs.Steps.{Seated, seen_in}
use Rattle.hall.proofs.hall.Hall.rule.Goals as goal

pub leave-requires-clause-desk : goal.leave-requires-clause-desk
leave-requires-clause-desk g c =
    may_leave c.seat.inside.place.me c.enter-desk.new.place.me c.seat.inside.number c.seat.inside.made c.enter-desk.result c.enter-desk.result
    (record { seat = c.seat.invariant; limit = c.enter-desk.ensures.limit; has = c.enter-desk.ensures.desk; follows = c.enter-desk.ensures.follows }) (record { limit = refl; history = refl })

pub enter-desk-requires-clause-rests : goal.enter-desk-requires-clause-rests
enter-desk-requires-clause-rests g c = has_rest c.seat.inside.place.me c.seat.inside.number c.seat.inside.made c.seat.invariant

pub invariant_of-seat : goal.invariant_of-seat
invariant_of-seat g c =
    seat_left c.seat.inside.place.me c.enter-desk.new.place.me c.leave.new.place.me c.seat.inside.number c.seat.inside.made c.enter-desk.result c.enter-desk.result
    (record { seat = c.seat.invariant; limit = c.enter-desk.ensures.limit; has = c.enter-desk.ensures.desk; follows = c.enter-desk.ensures.follows }) (record { limit = refl; history = refl }) c.leave.ensures.rests

pub returns-clause-goes_on : goal.returns-clause-goes_on
returns-clause-goes_on g c =
    gone_on _ c.seat.inside.place.table_id _ c.seat.inside.place.me c.enter-desk.new.place.me c.leave.new.place.me c.seat.inside.number c.seat.inside.made c.enter-desk.result c.enter-desk.result c.seat.view_is
    (record { seat = c.seat.invariant; limit = c.enter-desk.ensures.limit; has = c.enter-desk.ensures.desk; follows = c.enter-desk.ensures.follows }) (c.leave.ensures.place ∙ c.enter-desk.ensures.place)
    (record { limit = refl; history = refl }) c.leave.ensures.rests

pub returns-clause-entries : goal.returns-clause-entries
returns-clause-entries g c = c.board_entries.ensures.board _ c.board.ensures.word ∙ ap (λ (me : Seated). length (seen_in me)) (sym c.leave.ensures.rests)
