use Rattle.std.proofs.Common.{◌≡◌, ℕ, ◌+◌, ◌≤◌, List, [], ◌++◌, map, length, refl, ap, sym, ◌∙◌, arith}
use Rattle.std.proofs.lemmas.List.{length-map}
use Rattle.std.specs.Prelude.{Vec, vec_len, vec_capacity}
use Rattle.std.specs.Global.{Global}
use Rattle.std.specs.declared.vec.IntoIter.{IntoIter}
use Rattle.std.specs.Vec.Iter.{into_iter_items, into_iter_len}
use Rattle.hall.specs.Seats.{SeatState}
use Rattle.crew.specs.declared.call_end.CallEnd.{CallEnd}
use Rattle.crew.specs.declared.staff.Staff.{Staff}
use Rattle.crew.specs.Staff.{IsEmptyFor}
use Rattle.crew.proofs.Moved.{unwrapped, moved, all_moved, none_left, room_left, room_left_behind}
use Rattle.crew.proofs.staff.Staff.give_back.Goals as goal

-- the first part of the seats is in its buffer, and the others are on their way
begun : {X Y : Type 0} (v : X → Y) (start first got : List Y) (runs given : List X) (spare : List Y) → got ≡ start ++ first → start ≡ [] → given ≡ runs
    → first ++ (map v runs ++ spare) ≡ got ++ (map v given ++ spare)
begun v start first got runs given spare is none same =
    ap (λ s. s ++ (map v runs ++ spare)) (sym (is ∙ ap (λ s. s ++ first) none)) ∙ ap (λ r. got ++ (map v r ++ spare)) (sym same)

-- there is room for them
room_begun : {P : Type 0} (staff : Staff P) (got : Vec SeatState Global) (given : ℕ) → got.items ≡ staff.left.seats.items ++ map (λ worker. worker.seat) staff.workers.items
    → vec_capacity staff.left.seats ≤ vec_capacity got → given ≡ vec_len staff.runs
    → IsEmptyFor (vec_len staff.workers + (vec_len staff.runs + into_iter_len staff.spare)) (vec_len staff.runs) staff.left
    → (vec_len got + (given + into_iter_len staff.spare) ≤ vec_capacity got) × (vec_len staff.left.results + given ≤ vec_capacity staff.left.results)
room_begun staff got given is grows same empty =
    let first : length got.items ≡ length staff.workers.items =
    ap length (is ∙ ap (λ s. s ++ map (λ worker. worker.seat) staff.workers.items) empty.no_seats) ∙ length-map staff.workers.items (λ worker. worker.seat) in (
      omega (arith, first, got.ok.0, staff.workers.ok.0, empty.seats, grows, same),
      omega (arith, ap length empty.no_results, staff.left.results.ok.0, empty.results, same),
    )

-- the spare seats are left
spare_left : {X Y : Type 0} (v : X → Y) (all got : List Y) (it : IntoIter X Global) (spare given : IntoIter Y Global) → all ≡ got ++ (map v (into_iter_items it) ++ into_iter_items spare)
    → into_iter_len it ≡ 0 → given ≡ spare → all ≡ got ++ into_iter_items given
spare_left v all got it spare given is none same =
    is ∙ (ap (λ r. got ++ (map v r ++ into_iter_items spare)) (none_left it none) ∙ ap (λ s. got ++ into_iter_items s) (sym same))

room_spare : (got rest spare given room : ℕ) → got + (rest + spare) ≤ room → given ≡ spare → got + given ≤ room
room_spare got rest spare given room fits same = omega arith

-- the reports are in their buffer
ends_back : (ends : Vec (ℕ × CallEnd) Global) (more now : List (ℕ × CallEnd)) → ends.items ≡ [] → (vec_len ends + length more ≤ vec_capacity ends → now ≡ ends.items ++ more)
    → length more ≤ vec_capacity ends → now ≡ more
ends_back ends more now none taken fits = taken (omega (arith, ap length none, ends.ok.0, fits)) ∙ ap (λ e. e ++ more) none

pub loop-run-init : goal.loop-run-init
loop-run-init g c =
    let given = c.into_iter-run-iterator.ensures.into_iter_gives in
    let room = room_begun c.args.self c.dismiss.new.seats _ c.dismiss.ensures.seats c.dismiss.ensures.capacity given.1 c.requires in (
      begun (λ run. run.seat) _ _ c.dismiss.new.seats.items _ _ _ c.dismiss.ensures.seats c.requires.no_seats given.0,
      sym (ap (λ r. r ++ map (λ run. run.commands.results) (into_iter_items c.into_iter-run-iterator.result)) c.requires.no_results ∙ ap (map (λ run. run.commands.results)) given.0),
      room.0,
      room.1,
    )

pub loop-run-preserved : goal.loop-run-preserved
loop-run-preserved g c =
    let was = c.loop-run.invariant in
    let next = c.in-Some.ensures.steps in (
      moved (λ runs. map (λ run. run.seat) runs ++ into_iter_items c.args.self.spare) _ c.loop-run.seats.items c.push.new.self.items _ _ c.in-Some.run' _ refl was.0 next.0
          (unwrapped c.push.result c.unwrap.result _ _ _ c.unwrap.ensures c.push.ensures.items),
      moved (map (λ run. run.commands.results)) _ c.loop-run.results.items c.push-in-loop-run.new.self.items _ _ c.in-Some.run' _ refl was.1 next.0
          (unwrapped c.push-in-loop-run.result c.unwrap-in-loop-run.result _ _ _ c.unwrap-in-loop-run.ensures c.push-in-loop-run.ensures.items),
      room_left_behind (vec_len c.loop-run.seats) _ (into_iter_len c.loop-run.run-iterator) _ _ (vec_capacity c.loop-run.seats) _ was.2 next.1
          (unwrapped c.push.result c.unwrap.result _ _ _ c.unwrap.ensures c.push.ensures.len) c.push.ensures.capacity,
      room_left (vec_len c.loop-run.results) _ (into_iter_len c.loop-run.run-iterator) _ (vec_capacity c.loop-run.results) _ was.3 next.1
          (unwrapped c.push-in-loop-run.result c.unwrap-in-loop-run.result _ _ _ c.unwrap-in-loop-run.ensures c.push-in-loop-run.ensures.len) c.push-in-loop-run.ensures.capacity,
    )

pub loop-seat-init : goal.loop-seat-init
loop-seat-init g c =
    let given = c.into_iter-seat-iterator.ensures.into_iter_gives in
    let was = c.loop-run.invariant in (
      spare_left (λ run. run.seat) _ c.loop-run.seats.items c.loop-run.run-iterator c.args.self.spare _ was.0 c.in-None.ensures.steps.0 given,
      room_spare (vec_len c.loop-run.seats) (into_iter_len c.loop-run.run-iterator) (into_iter_len c.args.self.spare) _ (vec_capacity c.loop-run.seats) was.2 (ap into_iter_len given),
    )

pub loop-seat-preserved : goal.loop-seat-preserved
loop-seat-preserved g c =
    let next = c.in-Some-seat.ensures.steps in (
      moved (λ seats. seats) _ c.loop-seat.seats.items c.push-in-loop-seat.new.self.items _ _ c.in-Some-seat.seat _ refl c.loop-seat.invariant.0 next.0
          (unwrapped c.push-in-loop-seat.result c.unwrap-in-loop-seat.result _ _ _ c.unwrap-in-loop-seat.ensures c.push-in-loop-seat.ensures.items),
      room_left (vec_len c.loop-seat.seats) _ (into_iter_len c.loop-seat.seat-iterator) _ (vec_capacity c.loop-seat.seats) _ c.loop-seat.invariant.1 next.1
          (unwrapped c.push-in-loop-seat.result c.unwrap-in-loop-seat.result _ _ _ c.unwrap-in-loop-seat.ensures c.push-in-loop-seat.ensures.len) c.push-in-loop-seat.ensures.capacity,
    )

pub returns-clause-results : goal.returns-clause-results
returns-clause-results g c = all_moved (map (λ run. run.commands.results)) _ _ c.loop-run.run-iterator refl c.loop-run.invariant.1 c.in-None.ensures.steps.0

pub returns-clause-seats : goal.returns-clause-seats
returns-clause-seats g c = all_moved (λ seats. seats) _ _ c.loop-seat.seat-iterator refl c.loop-seat.invariant.0 c.in-None-seat.ensures.steps.0

pub returns-clause-ends : goal.returns-clause-ends
returns-clause-ends g c fits = ends_back c.args.self.left.ends _ _ c.requires.no_ends c.dismiss.ensures.ends fits
