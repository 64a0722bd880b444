use Rattle.std.proofs.Common.{sym, subst}
use Rattle.watchdog.specs.Found.{IsFound}
use Rattle.watchdog.proofs.StepLemmas.{stepped_then}
use Rattle.watchdog.proofs.watchdog.Watchdog.round.Goals as goal

pub returns-clause-had : goal.returns-clause-had
returns-clause-had g c =
    let kept = g.K.Keep.kept in
    let saw = c.find-found.new.seat in
    let found = subst (λ entries. IsFound kept entries saw c.find-found.result) (sym c.deref-3.ensures.value) c.find-found.ensures.found in record {
      wishing = c.take_wishes.new.guards.items;
      between = saw;
      wished = c.take_wishes.ensures;
      saw = c.find-found.ensures.looked;
      steps = stepped_then kept c.in_ok-at.at c.take_wishes.new.guards.items c.go_on_all.new.guards.items c.look_all-shows.new.guards.items saw saw
          c.look_all-shows.new.seat (c.go_on_all.ensures kept saw (sym c.number.ensures) found) c.look_all-shows.ensures.steps;
      all = c.look_all-shows.ensures.all;
    }
