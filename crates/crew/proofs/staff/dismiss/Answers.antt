use Rattle.std.proofs.Common.{◌≡◌, ℕ, ◌+◌, ◌≤◌, List, ◌∷◌, ◌++◌, map, length, refl, ap, subst, ◌∙◌, arith, length-append, append_assoc, sym}
use Rattle.std.specs.Prelude.{Result, Vec, vec_len, vec_capacity, if◌then◌else◌}
use Rattle.std.specs.Result.{is_ok, IsOk}
use Rattle.std.specs.Global.{Global}
use Rattle.std.specs.Vec.Iter.{into_iter_len}
use Rattle.crew.specs.declared.call_end.CallEnd.{CallEnd}
use Rattle.crew.specs.declared.worker.Worker.{Worker}
use Rattle.crew.specs.Staff.{reports_of}
use Rattle.crew.proofs.Moved.{unwrapped, moved, all_moved, room_left, grown}
use Rattle.crew.proofs.staff.dismiss.Goals as goal

-- the reports of one worker more were moved: there was room for them
reports_moved : {P E : Type 0} (all : List (ℕ × CallEnd)) (ends ends' : Vec (ℕ × CallEnd) Global) (rest rest' : List (Worker P)) (worker : Worker P) (result : Result Unit E)
    → rest ≡ worker ∷ rest' → (vec_len ends + vec_len worker.ends ≤ vec_capacity ends → IsOk result)
    → ends'.items ≡ (if is_ok result then ends.items ++ worker.ends.items else ends.items) → vec_capacity ends ≤ vec_capacity ends'
    → all ≡ ends.items ++ reports_of rest → vec_len ends + length (reports_of rest) ≤ vec_capacity ends
    → (all ≡ ends'.items ++ reports_of rest') × (vec_len ends' + length (reports_of rest') ≤ vec_capacity ends')
reports_moved all ends ends' rest rest' worker result next succeeds items grows is fits =
    let here : reports_of rest ≡ worker.ends.items ++ reports_of rest' = ap reports_of next in
    let long : length (reports_of rest) ≡ vec_len worker.ends + length (reports_of rest') =
    omega (arith, ap length here, length-append worker.ends.items (reports_of rest'), worker.ends.ok.0) in
    let ok : IsOk result = succeeds (omega (arith, long, fits)) in
    let moved : ends'.items ≡ ends.items ++ worker.ends.items = subst (λ b. ends'.items ≡ (if b then ends.items ++ worker.ends.items else ends.items)) ok items in (
      is ∙ (ap (λ r. ends.items ++ r) here ∙ (sym (append_assoc ends.items worker.ends.items (reports_of rest')) ∙ ap (λ e. e ++ reports_of rest') (sym moved))),
      omega (arith, long, fits, grows, ap length moved, length-append ends.items worker.ends.items, ends.ok.0, ends'.ok.0, worker.ends.ok.0),
    )

pub loop-worker-preserved : goal.loop-worker-preserved
loop-worker-preserved g c =
    let was = c.loop-worker.invariant in
    let next = c.in-Some.ensures.steps in (
      moved (map (λ worker. worker.seat)) _ c.loop-worker.seats.items c.push.new.self.items _ _ c.in-Some.worker _ refl was.0 next.0
          (unwrapped c.push.result c.unwrap.result _ _ _ c.unwrap.ensures c.push.ensures.items),
      room_left (vec_len c.loop-worker.seats) _ (into_iter_len c.loop-worker.worker-iterator) _ (vec_capacity c.loop-worker.seats) _ was.1 next.1
          (unwrapped c.push.result c.unwrap.result _ _ _ c.unwrap.ensures c.push.ensures.len) c.push.ensures.capacity,
      grown _ (vec_capacity c.loop-worker.seats) _ was.2 c.push.ensures.capacity,
      λ fits. reports_moved _ c.loop-worker.ends c.append.new.self _ _ c.in-Some.worker c.append.result next.0 c.append.ensures.succeeds c.append.ensures.items c.append.ensures.capacity (was.3 fits).0 (was.3 fits).1,
    )

pub returns-clause-ends : goal.returns-clause-ends
returns-clause-ends g c fits = all_moved reports_of _ _ c.loop-worker.worker-iterator refl (c.loop-worker.invariant.3 fits).0 c.in-None.ensures.steps.0

pub returns-clause-seats : goal.returns-clause-seats
returns-clause-seats g c = all_moved (map (λ worker. worker.seat)) _ _ c.loop-worker.worker-iterator refl c.loop-worker.invariant.0 c.in-None.ensures.steps.0
