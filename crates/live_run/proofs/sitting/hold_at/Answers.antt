use Rattle.std.proofs.Common.{arith, rules, subst, sym}
use Rattle.control_server.specs.Seats.{SeatsHaveMet}
use Rattle.control_server.specs.Server.{terms_of}
use Rattle.live_run.proofs.LoopLemmas.{whole_again}
use Rattle.live_run.proofs.sitting.hold_at.Goals as goal

pub returns : goal.returns
returns g c = record {
  met =
      subst (λ seats. SeatsHaveMet g.K.Keep.kept (terms_of c.args.server) c.args.hall.now.names c.args.seats.items seats)
      (sym (whole_again c.args.seats.items c.run.new.seats c.args.seats.len (rw c.as_mut_slice.ensures.value at c.run.ensures.met).count (omega (arith, c.args.seats.ok.0))))
      (rw c.as_mut_slice.ensures.value at c.run.ensures.met);
  still = λ none. search rules;
  ended = record { back = search rules; none_left = c.run.ensures.all };
}
