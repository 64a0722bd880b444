use Rattle.std.proofs.Common.{arith, ap, length, subst, sym}
use Rattle.std.specs.Prelude.{vec_len}
use Rattle.live_run.specs.WholeRun.{HaveTerms, loops_fault}
use Rattle.live_run.proofs.RunLemmas.{closed_alone, closed_entries, closed_late, closed_most, closed_ran, closed_setup, controlled_by, later_by_memory, looked_by, not_refused, refused_by, served_by}
use Rattle.live_run.proofs.whole_run.run_live.Goals as goal

pub returns-in-Err-clause-refused : goal.returns-in-Err-clause-refused
returns-in-Err-clause-refused g c = refused_by _ _ (vec_len c.args.servers) c.args.made.seats c.into_hall-hall.result.1.items c.in-Err.fault c.into_hall-hall.ensures.seats c.in-Err.ensures.refused

pub returns-in-Err-clause-failed : goal.returns-in-Err-clause-failed
returns-in-Err-clause-failed g c = later_by_memory (vec_len c.args.servers) c.args.made c.into_hall-hall.result.1.items c.in-Err.fault c.into_hall-hall.ensures.seats c.in-Err.ensures.failed

pub returns-in-Ok-clause-refused : goal.returns-in-Ok-clause-refused
returns-in-Ok-clause-refused g c = not_refused (vec_len c.args.servers) c.args.made.seats c.into_hall-hall.result.1.items c.in-Ok.seating c.close.result c.into_hall-hall.ensures.seats c.in-Ok.ensures.refused

pub returns-in-Ok-clause-failed : goal.returns-in-Ok-clause-failed
returns-in-Ok-clause-failed g c =
    closed_late c.close.result c.args.made c.into_hall-hall.result.0 c.serve-back.result.seats.items c.into_hall-hall.ensures.hall (loops_fault (vec_len c.args.servers) (length c.args.made.seats))
    (served_by _ _ _ _ _ c.args.servers.items _ _ _ _ c.in-Ok.seating c.args.servers.ok.0 c.in-Ok.seating.loops.ok.0 c.into_hall-hall.ensures.seats c.in-Ok.ensures.seated c.serve-back.ensures.served).seats
    c.close.ensures.missing

pub returns-in-Ok-clause-most : goal.returns-in-Ok-clause-most
returns-in-Ok-clause-most g c = closed_most c.close.result c.args.made c.into_hall-hall.result.0 c.serve-back.result.seats.items c.into_hall-hall.ensures.hall c.close.ensures.closed

pub returns-in-Ok-clause-ran : goal.returns-in-Ok-clause-ran
returns-in-Ok-clause-ran g c =
    closed_ran c.close.result c.args.made c.into_hall-hall.result.0 c.serve-back.result.seats.items c.into_hall-hall.ensures.hall _ c.args.places c.serve-back.result.places (vec_len c.args.servers) _
    (omega (arith, c.in-Ok.ensures.enough, ap length c.into_hall-hall.ensures.seats))
    (controlled_by c.args.servers.items _ _ _ c.in-Ok.seating c.args.servers.ok.0 c.into_hall-hall.ensures.seats c.in-Ok.ensures.seated)
    (served_by _ _ _ _ _ c.args.servers.items _ _ _ _ c.in-Ok.seating c.args.servers.ok.0 c.in-Ok.seating.loops.ok.0 c.into_hall-hall.ensures.seats c.in-Ok.ensures.seated c.serve-back.ensures.served)
    c.close.ensures.places c.close.ensures.closed

pub returns-in-Ok-clause-alone : goal.returns-in-Ok-clause-alone
returns-in-Ok-clause-alone g c = λ none.
    closed_alone c.close.result c.args.made c.into_hall-hall.result.0 c.serve-back.result.seats.items c.into_hall-hall.ensures.hall (vec_len c.args.servers)
    (looked_by c.args.servers.items _ _ _ _ c.in-Ok.seating c.args.servers.ok.0 c.in-Ok.seating.loops.ok.0 c.into_hall-hall.ensures.seats c.in-Ok.ensures.seated (c.serve-back.ensures.looked none))
    c.close.ensures.closed

pub returns-in-Ok-clause-entries : goal.returns-in-Ok-clause-entries
returns-in-Ok-clause-entries g c = λ none.
    closed_entries c.close.result c.args.made c.into_hall-hall.result.0 c.serve-back.result.seats.items c.into_hall-hall.ensures.hall (vec_len c.args.servers) (returns-in-Ok-clause-alone g c none)

pub returns-in-Ok-clause-setup : goal.returns-in-Ok-clause-setup
returns-in-Ok-clause-setup g c = λ none.
    closed_setup c.close.result c.args.made c.into_hall-hall.result.0 c.serve-back.result.seats.items c.into_hall-hall.ensures.hall (vec_len c.args.servers)
    (omega (arith, c.in-Ok.ensures.enough, ap length c.into_hall-hall.ensures.seats)) (returns-in-Ok-clause-alone g c none)

pub serve-back-requires-clause-terms : goal.serve-back-requires-clause-terms
serve-back-requires-clause-terms g c κs within = subst (λ hall. HaveTerms hall.most c.args.places) (sym c.into_hall-hall.ensures.hall) c.requires.terms
