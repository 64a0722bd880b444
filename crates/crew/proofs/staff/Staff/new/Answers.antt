use Rattle.std.proofs.Common.{◌≡◌, ◌≤◌, ℕ, ◌+◌, ◌++◌, ap, arith, length, map, subst, sym, vec_len, ◌∙◌}
use Rattle.std.proofs.lemmas.List.{length_push}
use Rattle.std.specs.Prelude.{vec_capacity}
use Rattle.std.specs.Vec.Iter.{into_iter_len}
use Rattle.crew.specs.Staff.{IsEmptyFor}
use Rattle.crew.proofs.Moved.{unwrapped, yielded, moved_as, grown, as_many}
use Rattle.crew.proofs.StaffLemmas.{staff_made}
use Rattle.crew.proofs.staff.Staff.new.Goals as goal

pub returns-clause-made : goal.returns-clause-made
returns-clause-made g c =
    staff_made _ _ c.args.orders _ _
    (ap (λ xs. map (λ worker. worker.seat) c.loop.hired.items ++ xs) (sym c.assign.ensures.seats) ∙ sym c.loop.invariant.0)
    (omega (arith, c.loop.hired.ok.0, c.loop.invariant.1, c.loop-test.false, c.loop.auto.counter-end))
    c.assign.ensures.lists c.in-Ok.ensures.orders c.in-Ok.ensures.equipped
    (subst (λ n. IsEmptyFor n (vec_len c.args.orders) c.in-Ok.vacant.left) (c.len.ensures ∙ c.args.seats.ok.0) c.in-Ok.ensures.room.left)

-- as many seats as before are left for the others
one_taken : (workers lists hired rest rest' : ℕ) → workers + lists ≤ hired + rest → rest' + 1 ≡ rest → workers + lists ≤ hired + 1 + rest'
one_taken workers lists hired rest rest' enough next = omega arith

enough_left : (workers lists hired rest : ℕ) → workers + lists ≤ hired + rest → hired ≤ workers → lists ≤ rest
enough_left workers lists hired rest enough most = omega arith

pub loop-preserved : goal.loop-preserved
loop-preserved g c =
    let was = c.loop.invariant in
    let next = yielded c.loop.spare c.next.new.self c.next.result c.unwrap-seat.result c.unwrap-seat.ensures c.next.ensures.cases in
    let pushed = unwrapped c.push.result c.unwrap.result _ _ _ c.unwrap.ensures c.push.ensures.items in (
      moved_as (λ worker. worker.seat) _ c.loop.hired.items c.push.new.self.items _ _ _ was.0 next.0 pushed,
      ap length pushed ∙ (length_push c.loop.hired.items _ ∙ ap (λ n. n + 1) was.1),
      grown _ (vec_capacity c.loop.hired) _ was.2 c.push.ensures.capacity,
      one_taken _ _ c.loop.counter (into_iter_len c.loop.spare) _ was.3 next.1,
    )

pub assign-requires-clause-room : goal.assign-requires-clause-room
assign-requires-clause-room g c =
    subst (λ n. n ≤ vec_capacity c.in-Ok.vacant.runs) (sym (as_many (λ list. list.orders) c.in-Ok.lists c.args.orders c.in-Ok.ensures.orders)) c.in-Ok.ensures.room.runs

pub assign-requires-clause-seats : goal.assign-requires-clause-seats
assign-requires-clause-seats g c =
    subst (λ n. n ≤ into_iter_len c.loop.spare) (sym (as_many (λ list. list.orders) c.in-Ok.lists c.args.orders c.in-Ok.ensures.orders))
    (enough_left c.args.workers (vec_len c.args.orders) c.loop.counter _ c.loop.invariant.3 c.loop.auto.counter-end)
