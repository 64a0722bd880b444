use Rattle.std.proofs.Common.{None, refl, rules, subst, sym}
use Rattle.control_server.specs.Sessions.{seats_unused}
use Rattle.live_run.specs.Sitting.{HasSat, terms_by}
use Rattle.live_run.proofs.sitting.hold_sessions.Goals as goal

pub returns-in-None : goal.returns-in-None
returns-in-None g c =
    subst (λ server. HasSat g.K.Keep.kept (terms_by c.args.rights c.args.hall.now.most) c.args.hall.now.names server c.args.sitting.seats.items None c.args.sitting.seats.items) (sym c.in-None.is)
    (record {
      met = seats_unused _ _ _ _;
      still = λ none. refl;
      ended = record { back = search rules; none_left = tt };
    })
