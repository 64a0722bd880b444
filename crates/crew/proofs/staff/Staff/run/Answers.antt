use Rattle.std.proofs.Common.{arith, sym, ◌∙◌, map}
use Rattle.crew.proofs.StaffLemmas.{runs_ready, served_ours, staff_served, workers_ours}
use Rattle.crew.proofs.staff.Staff.run.Goals as goal

pub run_beside-workers-requires-clause-workers : goal.run_beside-workers-requires-clause-workers
run_beside-workers-requires-clause-workers g c κs within = workers_ours _ c.args.self.workers.items _ c.requires.seats

pub run_beside-workers-requires-clause-runs : goal.run_beside-workers-requires-clause-runs
run_beside-workers-requires-clause-runs g c κs within =
    runs_ready _ (map (λ worker. worker.seat) c.args.self.workers.items) c.args.self.runs.items _ c.requires.seats c.requires.memory.lists

pub give_back-requires : goal.give_back-requires
give_back-requires g c = record {
  no_seats = c.requires.memory.left.no_seats;
  seats = omega (arith, c.requires.memory.left.seats, c.run_beside-workers.ensures.workers, c.run_beside-workers.ensures.runs);
  no_results = c.requires.memory.left.no_results;
  results = omega (arith, c.requires.memory.left.results, c.run_beside-workers.ensures.runs);
  no_ends = c.requires.memory.left.no_ends;
}

pub returns-clause-served : goal.returns-clause-served
returns-clause-served g c =
    staff_served _ c.args.self c.run_beside-workers.result.0.items c.run_beside-workers.result.1.items _ _
    (sym c.run_beside-workers.result.0.ok.0 ∙ (c.run_beside-workers.ensures.workers ∙ c.args.self.workers.ok.0))
    (sym c.run_beside-workers.result.1.ok.0 ∙ (c.run_beside-workers.ensures.runs ∙ c.args.self.runs.ok.0))
    c.run_beside-workers.ensures.looked c.run_beside-workers.ensures.ran c.give_back.ensures.seats c.give_back.ensures.results

pub returns-clause-ours : goal.returns-clause-ours
returns-clause-ours g c = served_ours _ _ _ _ _ _ _ (returns-clause-served g c) c.requires.seats
