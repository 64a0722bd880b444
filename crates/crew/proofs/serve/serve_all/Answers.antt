use Rattle.std.proofs.Common.{arith, ap, subst, sym, inl, inr, vec_items}
use Rattle.std.specs.List.{All}
use Rattle.hall.specs.Seats.{IsOf}
use Rattle.crew.specs.Serve.{lists_in}
use Rattle.crew.proofs.Reasons.{where_none, not_told, no_reason}
use Rattle.crew.proofs.StaffLemmas.{made_served}
use Rattle.crew.proofs.serve.serve_all.Goals as goal

pub returns-in-Err-clause-failed : goal.returns-in-Err-clause-failed
returns-in-Err-clause-failed g c = where_none _ _ _ _ _ (omega arith) c.fault_of-why.ensures

pub returns-clause-failed : goal.returns-clause-failed
returns-clause-failed g c = where_none _ _ _ _ _ (omega arith) c.in-Err-gather.ensures.err

pub run-seats-requires-clause-seats : goal.run-seats-requires-clause-seats
run-seats-requires-clause-seats g c κs within = subst (All (IsOf c.args.hall.now)) (sym c.in-Ok.ensures.made.seats) c.requires.ours

pub returns-in-Ok-gather-clause-served : goal.returns-in-Ok-gather-clause-served
returns-in-Ok-gather-clause-served g c = made_served _ c.in-Ok.staff _ _ _ _ _ c.in-Ok.ensures.made c.run-seats.ensures.served

pub returns-clause-left : goal.returns-clause-left
returns-clause-left g c = inr (lists_in c.run-seats.result.results, made_served _ c.in-Ok.staff _ _ _ _ _ c.in-Ok.ensures.made c.run-seats.ensures.served)

pub returns-in-Ok-gather-clause-refused : goal.returns-in-Ok-gather-clause-refused
returns-in-Ok-gather-clause-refused g c = not_told _ c.args.workers _ _ c.len.result c.len-2.result c.of.result c.of.ensures.value c.in_default.is c.len.ensures c.len-2.ensures

pub returns-clause-refused : goal.returns-clause-refused
returns-clause-refused g c = not_told _ c.args.workers _ _ c.len.result c.len-2.result c.of.result c.of.ensures.value c.in_default.is c.len.ensures c.len-2.ensures

pub returns-in-Ok-gather-clause-failed : goal.returns-in-Ok-gather-clause-failed
returns-in-Ok-gather-clause-failed g c = no_reason _

pub returns-in-Err-clause-left : goal.returns-in-Err-clause-left
returns-in-Err-clause-left g c = inl c.in-Err.ensures.refused

pub returns-in-Err-clause-refused : goal.returns-in-Err-clause-refused
returns-in-Err-clause-refused g c = not_told _ c.args.workers _ _ c.len.result c.len-2.result c.of.result c.of.ensures.value c.in_default.is c.len.ensures c.len-2.ensures

pub returns-in-Ok-gather-clause-still_ours : goal.returns-in-Ok-gather-clause-still_ours
returns-in-Ok-gather-clause-still_ours g c = c.run-seats.ensures.ours

pub returns-clause-still_ours : goal.returns-clause-still_ours
returns-clause-still_ours g c = c.run-seats.ensures.ours

pub returns-in-Err-clause-still_ours : goal.returns-in-Err-clause-still_ours
returns-in-Err-clause-still_ours g c = subst (All (IsOf c.args.hall.now)) (ap vec_items (sym c.in-Err.ensures.refused)) c.requires.ours
