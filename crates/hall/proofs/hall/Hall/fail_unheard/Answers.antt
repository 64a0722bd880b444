use Rattle.std.proofs.Common.{◌≡◌, ◌-◌, ◌↔◌, List, ◌∷◌, length, refl, ap, sym, subst, arith, ◌∙◌}
use Rattle.std.specs.Prelude.{Some, IsTrue}
use Rattle.desk_core.specs.declared.call.Call.TheVariants.{Observe}
use Rattle.desk_core.specs.declared.call.Finding.TheVariants.{Fail}
use Rattle.desk_core.specs.declared.entry.Entry.{Entry}
use Rattle.desk_core.specs.Mutation.{entry_of}
use Rattle.desk_core.specs.Silence.{is_to_fail}
use Rattle.hall.specs.Seats.{SeatState, IsCarriedOut}
use Rattle.hall.specs.Silence.{seen_before}
use Rattle.hall.specs.Steps.{HasDesk, seen_in}
use Rattle.hall.proofs.Taken.{may_commit, may_count, may_leave, newest, unchanged, before_newest, seat_taken, seat_kept, own_entry, carried_out, seat_of, shows_seen, has_rest}
use Rattle.hall.proofs.GivenBack.{seat_left, gone_on, own_kept}
use Rattle.desk_core.specs.Changes.{Shows}
use Rattle.hall.proofs.Reread.{as_long, effect_is, none_is}
use Rattle.hall.proofs.hall.Hall.fail_unheard.Goals as goal

pub finish-requires-clause-desk : goal.finish-requires-clause-desk
finish-requires-clause-desk g c =
    let waiting = c.enter-desk.new.place.me in
    subst (λ seat. HasDesk waiting seat c.change.new.self.max_entries (seen_in waiting)) (sym (ap (λ e. e.seat) (own_entry _ _ c.seat.inside.number _ _ c.entry-entry.ensures (omega arith))))
    (may_commit c.seat.inside.place.me waiting c.seat.inside.number c.seat.inside.made c.enter-desk.result c.change.new.self
    (record { seat = c.seat.invariant; limit = c.enter-desk.ensures.limit; has = c.enter-desk.ensures.desk; follows = c.enter-desk.ensures.follows })
    c.in-Ok.ensures.answered.most)

pub finish-requires-clause-newest : goal.finish-requires-clause-newest
finish-requires-clause-newest g c =
    newest _ _ _ _ _ c.in-Ok.ensures.answered ∙ ap (λ (h : List Entry). entry_of c.seat.inside.number (Observe c.args.slot Fail) c.in-Ok.made.reply ∷ h) (sym (ap seen_in c.enter-desk.ensures.desk.1))
    ∙ ap (λ e. e ∷ seen_in c.enter-desk.new.place.me) (sym (own_entry _ _ c.seat.inside.number _ _ c.entry-entry.ensures (omega arith)))

pub finish-requires-clause-limit : goal.finish-requires-clause-limit
finish-requires-clause-limit g c =
    may_count c.seat.inside.place.me c.enter-desk.new.place.me c.seat.inside.number c.seat.inside.made c.enter-desk.result
    (record { seat = c.seat.invariant; limit = c.enter-desk.ensures.limit; has = c.enter-desk.ensures.desk; follows = c.enter-desk.ensures.follows })

pub invariant_of-seat-in-Ok : goal.invariant_of-seat-in-Ok
invariant_of-seat-in-Ok g c =
    seat_taken c.seat.inside.place.me c.enter-desk.new.place.me _ _ c.seat.inside.made _ c.entry-entry.result.seat c.enter-desk.result _ _ _
    (record { seat = c.seat.invariant; limit = c.enter-desk.ensures.limit; has = c.enter-desk.ensures.desk; follows = c.enter-desk.ensures.follows })
    c.in-Ok.ensures.answered (ap (λ e. e.seat) (own_entry _ _ c.seat.inside.number _ _ c.entry-entry.ensures (omega arith))) c.finish.ensures.rests c.finish.ensures.made c.finish.ensures.legal

pub returns-in-Ok-clause-due : goal.returns-in-Ok-clause-due
returns-in-Ok-clause-due g c =
    ap (λ number. is_to_fail g.K.Keep.kept number c.args.slot c.args.from (seen_before c.effect.result.result (seen_in c.finish.new.place.me)))
    (sym (ap (λ (seat : SeatState). seat.number) c.seat.view_is))
    ∙ ap (λ result. is_to_fail g.K.Keep.kept c.seat.inside.number c.args.slot c.args.from (seen_before result (seen_in c.finish.new.place.me)))
    (ap (λ effect. effect.result) c.effect.ensures)
    ∙ ap (is_to_fail g.K.Keep.kept c.seat.inside.number c.args.slot c.args.from)
    (before_newest c.finish.new.place.me c.entry-entry.result.seat c.seat.inside.number c.enter-desk.result c.change.new.self (Observe c.args.slot Fail)
    c.in-Ok.made.reply c.in-Ok.ensures.answered c.finish.ensures.rests)
    ∙ sym c.is_to_fail.ensures.value
    ∙ c.if-not-is_to_fail.false

pub leave-requires-in-Err-clause-desk : goal.leave-requires-in-Err-clause-desk
leave-requires-in-Err-clause-desk g c =
    may_leave c.seat.inside.place.me c.enter-desk.new.place.me c.seat.inside.number c.seat.inside.made c.enter-desk.result c.change.new.self
    (record { seat = c.seat.invariant; limit = c.enter-desk.ensures.limit; has = c.enter-desk.ensures.desk; follows = c.enter-desk.ensures.follows })
    (unchanged _ _ _ _ _ c.in-Err.ensures.answered)

pub invariant_of-seat-in-Err : goal.invariant_of-seat-in-Err
invariant_of-seat-in-Err g c =
    seat_kept c.seat.inside.place.me c.enter-desk.new.place.me _ _ _ c.enter-desk.result _ _ _
    (record { seat = c.seat.invariant; limit = c.enter-desk.ensures.limit; has = c.enter-desk.ensures.desk; follows = c.enter-desk.ensures.follows })
    c.in-Err.ensures.answered c.leave-in-Err.ensures.rests

pub returns-clause-due : goal.returns-clause-due
returns-clause-due g c =
    ap (λ number. is_to_fail g.K.Keep.kept number c.args.slot c.args.from (seen_before c.of_refusal.result.result (seen_in c.leave-in-Err.new.place.me)))
    (sym (ap (λ (seat : SeatState). seat.number) c.seat.view_is))
    ∙ ap (λ result. is_to_fail g.K.Keep.kept c.seat.inside.number c.args.slot c.args.from (seen_before result (seen_in c.leave-in-Err.new.place.me)))
    (ap (λ effect. effect.result) c.of_refusal.ensures)
    ∙ ap (is_to_fail g.K.Keep.kept c.seat.inside.number c.args.slot c.args.from)
    (ap seen_in c.leave-in-Err.ensures.rests ∙ (unchanged _ _ _ _ _ c.in-Err.ensures.answered).history)
    ∙ sym c.is_to_fail.ensures.value
    ∙ c.if-not-is_to_fail.false

pub leave-requires-clause-desk : goal.leave-requires-clause-desk
leave-requires-clause-desk g c = may_leave c.seat.inside.place.me c.enter-desk.new.place.me c.seat.inside.number c.seat.inside.made c.enter-desk.result c.enter-desk.result (record { seat = c.seat.invariant; limit = c.enter-desk.ensures.limit; has = c.enter-desk.ensures.desk; follows = c.enter-desk.ensures.follows }) (record { limit = refl; history = refl })

pub invariant_of-seat : goal.invariant_of-seat
invariant_of-seat g c = seat_left c.seat.inside.place.me c.enter-desk.new.place.me c.leave.new.place.me c.seat.inside.number c.seat.inside.made c.enter-desk.result c.enter-desk.result (record { seat = c.seat.invariant; limit = c.enter-desk.ensures.limit; has = c.enter-desk.ensures.desk; follows = c.enter-desk.ensures.follows }) (record { limit = refl; history = refl }) c.leave.ensures.rests

pub returns-then-not-is_to_fail-clause-goes_on : goal.returns-then-not-is_to_fail-clause-goes_on
returns-then-not-is_to_fail-clause-goes_on g c =
    gone_on _ c.seat.inside.place.table_id _ c.seat.inside.place.me c.enter-desk.new.place.me c.leave.new.place.me c.seat.inside.number c.seat.inside.made c.enter-desk.result c.enter-desk.result c.seat.view_is (record { seat = c.seat.invariant; limit = c.enter-desk.ensures.limit; has = c.enter-desk.ensures.desk; follows = c.enter-desk.ensures.follows })
    (c.leave.ensures.place ∙ c.enter-desk.ensures.place) (record { limit = refl; history = refl }) c.leave.ensures.rests

pub returns-then-not-is_to_fail-clause-kept : goal.returns-then-not-is_to_fail-clause-kept
returns-then-not-is_to_fail-clause-kept g c =
    own_kept _ c.seat.inside.place.table_id c.leave.new.place.table_id c.seat.inside.place.me c.enter-desk.new.place.me c.leave.new.place.me c.seat.inside.number c.seat.inside.made c.enter-desk.result c.enter-desk.result c.seat.view_is (record { seat = c.seat.invariant; limit = c.enter-desk.ensures.limit; has = c.enter-desk.ensures.desk; follows = c.enter-desk.ensures.follows }) (record { limit = refl; history = refl }) c.leave.ensures.rests

pub returns-then-not-is_to_fail-clause-none : goal.returns-then-not-is_to_fail-clause-none
returns-then-not-is_to_fail-clause-none g c =
    ap (λ number. is_to_fail g.K.Keep.kept number c.args.slot c.args.from (seen_in c.leave.new.place.me)) (sym (ap (λ (seat : SeatState). seat.number) c.seat.view_is))
    ∙ ap (is_to_fail g.K.Keep.kept c.seat.inside.number c.args.slot c.args.from) (ap seen_in c.leave.ensures.rests)
    ∙ sym c.is_to_fail.ensures.value
    ∙ c.if-not-is_to_fail.true

pub returns-in-Ok-clause-made : goal.returns-in-Ok-clause-made
returns-in-Ok-clause-made g c =
    subst (IsCarriedOut c.args.seat.now (seat_of c.finish.new.place.table_id c.finish.new.place.me c.seat.inside.number) (Some (Observe c.args.slot Fail)))
    (sym (ap (λ effect. effect.result) c.effect.ensures))
    (carried_out c.args.seat.now c.seat.inside.place.table_id c.finish.new.place.table_id c.seat.inside.place.me c.enter-desk.new.place.me c.finish.new.place.me c.seat.inside.number c.seat.inside.made
    c.entry-entry.result.seat c.enter-desk.result c.change.new.self (Observe c.args.slot Fail) _ c.seat.view_is
    (record { seat = c.seat.invariant; limit = c.enter-desk.ensures.limit; has = c.enter-desk.ensures.desk; follows = c.enter-desk.ensures.follows }) (c.finish.ensures.place ∙ c.enter-desk.ensures.place) c.in-Ok.ensures.answered c.finish.ensures.rests)

pub returns-clause-made : goal.returns-clause-made
returns-clause-made g c =
    subst (IsCarriedOut c.args.seat.now (seat_of c.leave-in-Err.new.place.table_id c.leave-in-Err.new.place.me c.seat.inside.number) (Some (Observe c.args.slot Fail)))
    (sym (ap (λ effect. effect.result) c.of_refusal.ensures))
    (carried_out c.args.seat.now c.seat.inside.place.table_id c.leave-in-Err.new.place.table_id c.seat.inside.place.me c.enter-desk.new.place.me c.leave-in-Err.new.place.me c.seat.inside.number
    c.seat.inside.made _ c.enter-desk.result c.change.new.self (Observe c.args.slot Fail) _ c.seat.view_is
    (record { seat = c.seat.invariant; limit = c.enter-desk.ensures.limit; has = c.enter-desk.ensures.desk; follows = c.enter-desk.ensures.follows }) (c.leave-in-Err.ensures.place ∙ c.enter-desk.ensures.place) c.in-Err.ensures.answered c.leave-in-Err.ensures.rests)

pub returns-in-Ok-clause-placed : goal.returns-in-Ok-clause-placed
returns-in-Ok-clause-placed g c =
    effect_is (λ effect reply. effect.at ≡ Some (length (seen_in c.finish.new.place.me) - 1)) c.effect.result _ c.in-Ok.made.reply c.effect.ensures refl
    (ap Some (omega (arith, c.in-Ok.ensures.placed.1, as_long c.finish.new.place.me _ _ c.change.new.self.journal c.finish.ensures.rests)))

pub returns-in-Ok-clause-shows : goal.returns-in-Ok-clause-shows
returns-in-Ok-clause-shows g c =
    effect_is (λ effect reply. IsTrue effect.shows ↔ Shows (seen_in c.finish.new.place.me)) c.effect.result _ c.in-Ok.made.reply c.effect.ensures refl
    (shows_seen _ _ _ c.change.new.self c.in-Ok.ensures.shows c.finish.ensures.rests)

pub returns-clause-shows : goal.returns-clause-shows
returns-clause-shows g c = none_is _ c.of_refusal.result c.in-Err.refusal (ap (λ effect. effect.result) c.of_refusal.ensures)

pub enter-desk-requires-clause-rests : goal.enter-desk-requires-clause-rests
enter-desk-requires-clause-rests g c = has_rest c.seat.inside.place.me c.seat.inside.number c.seat.inside.made c.seat.invariant
