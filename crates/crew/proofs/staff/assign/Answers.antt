use Rattle.std.proofs.Common.{◌≡◌, ◌≤◌, ℕ, ◌+◌, length, ap, ◌∙◌, arith}
use Rattle.std.proofs.lemmas.List.{length_push}
use Rattle.std.specs.Prelude.{vec_capacity}
use Rattle.std.specs.Vec.Iter.{into_iter_len}
use Rattle.crew.proofs.Moved.{unwrapped, yielded, moved_as, all_moved_as, room_left}
use Rattle.crew.proofs.staff.assign.Goals as goal

-- each list still finds a seat
seats_left : (lists lists' seats seats' : ℕ) → lists ≤ seats → lists' + 1 ≡ lists → seats' + 1 ≡ seats → lists' ≤ seats'
seats_left lists lists' seats seats' enough next taken = omega arith

pub loop-commands-preserved : goal.loop-commands-preserved
loop-commands-preserved g c =
    let was = c.loop-commands.invariant in
    let next = c.in-Some.ensures.steps in
    let seat = yielded c.loop-commands.seats c.next-in-loop-commands.new.self c.next-in-loop-commands.result c.unwrap-seat.result c.unwrap-seat.ensures c.next-in-loop-commands.ensures.cases in
    let pushed = unwrapped c.push.result c.unwrap.result _ _ _ c.unwrap.ensures c.push.ensures.items in (
      moved_as (λ run. run.seat) _ c.loop-commands.runs.items c.push.new.self.items _ _ _ was.0 seat.0 pushed,
      moved_as (λ run. run.commands) _ c.loop-commands.runs.items c.push.new.self.items _ _ _ was.1 next.0 pushed,
      room_left (length c.loop-commands.runs.items) _ (into_iter_len c.loop-commands.commands-iterator) _ (vec_capacity c.loop-commands.runs) _ was.2 next.1
          (ap length pushed ∙ length_push c.loop-commands.runs.items _) c.push.ensures.capacity,
      seats_left (into_iter_len c.loop-commands.commands-iterator) _ (into_iter_len c.loop-commands.seats) _ was.3 next.1 seat.1,
    )

pub returns-clause-lists : goal.returns-clause-lists
returns-clause-lists g c = all_moved_as (λ run. run.commands) _ _ c.loop-commands.commands-iterator c.loop-commands.invariant.1 c.in-None.ensures.steps.0
