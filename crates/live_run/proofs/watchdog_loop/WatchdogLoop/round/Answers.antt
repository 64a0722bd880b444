use Rattle.live_run.specs.Watched.{guards_in}
use Rattle.live_run.proofs.WatchLemmas.{watched_then}
use Rattle.live_run.proofs.watchdog_loop.WatchdogLoop.round.Goals as goal

pub returns-clause-watched : goal.returns-clause-watched
returns-clause-watched g c =
    watched_then g.K.Keep.kept (guards_in c.args.self.now) (guards_in c.watch-patience.new.self) (guards_in c.tell.new.self)
    c.args.seat.now c.watch-patience.new.seat c.tell.new.seat c.watch-patience.ensures.watched c.tell.ensures.watched
