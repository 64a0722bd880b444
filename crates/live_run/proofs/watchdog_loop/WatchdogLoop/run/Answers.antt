use Rattle.live_run.specs.Watched.{guards_in}
use Rattle.live_run.proofs.WatchLemmas.{watched_then}
use Rattle.live_run.proofs.watchdog_loop.WatchdogLoop.run.Goals as goal

pub returns-clause-watched : goal.returns-clause-watched
returns-clause-watched g c =
    watched_then g.K.Keep.kept (guards_in c.args.self.now) (guards_in c.rounds.new.self) (guards_in c.tell_end.new.self)
    c.args.seat.now c.rounds.new.seat c.tell_end.new.seat c.rounds.ensures.watched c.tell_end.ensures.watched
