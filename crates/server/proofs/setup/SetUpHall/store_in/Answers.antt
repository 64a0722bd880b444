use Rattle.std.proofs.Common.{◌≡◌, ◌∙◌, List, Option, ap, sym, subst, arith}
use Rattle.std.specs.Prelude.{slice_set}
use Rattle.desk_core.specs.declared.call.Call.{Call}
use Rattle.desk_core.specs.Left.{Holds}
use Rattle.desk_core.specs.Past.{past}
use Rattle.hall.specs.CarriedOut.{replied}
use Rattle.hall.specs.Seats.{SeatState, IsOf, new_seats}
use Rattle.server.specs.Setup.{AreSetUp, SetUpState}
use Rattle.server.proofs.OwnLemmas.{stands_for_seen}
use Rattle.server.proofs.StoringLemmas.{always, first_has_seen, on_ok, same_seats, seen, some_seats, still}
use Rattle.server.proofs.setup.SetUpHall.store_in.Goals as goal
use Rattle.server.proofs.setup.SetUpHall.store_in.Goals.{After-store_in-arg-1}
use Rattle.server.proofs.setup.SetUpHall.store_in.Given.{Over}

pub index_mut-seat-requires : goal.index_mut-seat-requires
index_mut-seat-requires g c =
    omega (arith, some_seats g.K.Keep.stands g.K.Keep.left c.args.store c.args.self.now c.self.inside.seats.items c.requires.has (ap (λ (made : SetUpState). made.seats) c.self.view_is), c.self.inside.seats.ok.0)

pub extent-entries-requires : goal.extent-entries-requires
extent-entries-requires g c =
    subst (IsOf c.self.inside.hall) (sym c.index_mut-seat.ensures.value)
    (c.self.invariant.0 0 c.index_mut-seat.result.now
    (some_seats g.K.Keep.stands g.K.Keep.left c.args.store c.args.self.now c.self.inside.seats.items c.requires.has (ap (λ (made : SetUpState). made.seats) c.self.view_is)))

has_seen : (g : Over) (c : After-store_in-arg-1 g) (calls : List (Option Call))
    → AreSetUp calls c.args.self.now.results (new_seats c.args.self.now.hall.table c.args.self.now.hall.most c.args.self.now.hall.seats) c.args.self.now.seats
    → c.extent-entries.new.seat.seen ≡ past (replied 0 calls c.args.self.now.results)
has_seen g c calls set =
    seen c.args.self.now c.requires.has.some c.self.inside.seats.items (ap (λ (made : SetUpState). made.seats) c.self.view_is) c.index_mut-seat.result.now c.extent-entries.new.seat
    c.index_mut-seat.ensures.value c.extent-entries.ensures.goes_on c.extent-entries.ensures.kept
    (omega (arith, c.made.ensures.count, c.if-made-from.false, c.from.ensures, c.extent-entries.ensures.entries)) calls set

pub store_in-requires-clause-ours : goal.store_in-requires-clause-ours
store_in-requires-clause-ours g c =
    subst (IsOf c.self.inside.hall)
    (sym (still c.args.self.now c.requires.has.some c.self.inside.seats.items (ap (λ (made : SetUpState). made.seats) c.self.view_is) c.index_mut-seat.result.now c.extent-entries.new.seat
    c.index_mut-seat.ensures.value c.extent-entries.ensures.goes_on c.extent-entries.ensures.kept
    (omega (arith, c.made.ensures.count, c.if-made-from.false, c.from.ensures, c.extent-entries.ensures.entries))))
    (subst (IsOf c.self.inside.hall) (sym c.index_mut-seat.ensures.value)
    (c.self.invariant.0 0 c.index_mut-seat.result.now
    (some_seats g.K.Keep.stands g.K.Keep.left c.args.store c.args.self.now c.self.inside.seats.items c.requires.has (ap (λ (made : SetUpState). made.seats) c.self.view_is))))

pub store_in-requires-clause-stands : goal.store_in-requires-clause-stands
store_in-requires-clause-stands g c =
    let has = c.requires.has in
    stands_for_seen g.K.Keep.stands c.args.store c.extent-entries.new.seat.seen (replied 0 has.calls c.args.self.now.results) (has_seen g c has.calls has.set_up) has.stands_for

pub store_in-requires-clause-holds : goal.store_in-requires-clause-holds
store_in-requires-clause-holds g c =
    let has = c.requires.has in
    stands_for_seen (λ store journal. Holds (g.K.Keep.left store) journal) c.args.store c.extent-entries.new.seat.seen (replied 0 has.calls c.args.self.now.results)
    (has_seen g c has.calls has.set_up) has.holds

pub returns-clause-same : goal.returns-clause-same
returns-clause-same g c =
    let are = ap (λ (made : SetUpState). made.seats) c.self.view_is in
    let full = some_seats g.K.Keep.stands g.K.Keep.left c.args.store c.args.self.now c.self.inside.seats.items c.requires.has are in
    on_ok c.store_in.result
    (λ same.
    ap (λ (seats : List SeatState). record { hall = c.self.inside.hall; seats = seats; results = c.self.inside.results.items; orders = c.self.inside.orders.items })
    (ap (λ (seat : SeatState). slice_set c.self.inside.seats.items 0 seat) same
    ∙ same_seats c.args.self.now c.requires.has.some c.self.inside.seats.items are c.index_mut-seat.result.now c.extent-entries.new.seat
    c.index_mut-seat.ensures.value c.extent-entries.ensures.goes_on c.extent-entries.ensures.kept
    (omega (arith, c.made.ensures.count, c.if-made-from.false, c.from.ensures, c.extent-entries.ensures.entries)) full)
    ∙ c.self.view_is)
    c.store_in.ensures.same

pub returns-clause-seen : goal.returns-clause-seen
returns-clause-seen g c =
    always c.store_in.result (λ calls other set.
    first_has_seen c.args.self.now c.requires.has.some c.self.inside.seats.items (ap (λ (made : SetUpState). made.seats) c.self.view_is) c.index_mut-seat.result.now
    c.extent-entries.new.seat c.index_mut-seat.ensures.value c.extent-entries.ensures.goes_on c.extent-entries.ensures.kept
    (omega (arith, c.made.ensures.count, c.if-made-from.false, c.from.ensures, c.extent-entries.ensures.entries)) calls set other)
