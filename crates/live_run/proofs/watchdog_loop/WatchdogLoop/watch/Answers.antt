use Rattle.live_run.specs.Watched.{guards_in}
use Rattle.watchdog.specs.Watching.{Misses, NoRound, OneRound, guards_of}
use Rattle.live_run.proofs.watchdog_loop.WatchdogLoop.watch.Goals as goal

pub returns-in_default-clause-watched : goal.returns-in_default-clause-watched
returns-in_default-clause-watched g c =
    let guards = guards_in c.args.self.now in
    let seat = c.args.seat.now in
    Misses guards guards (guards_of c.round.new.self) seat seat c.round.new.seat (NoRound guards seat) c.in_default.ensures.missed

pub returns-clause-watched : goal.returns-clause-watched
returns-clause-watched g c =
    let guards = guards_in c.args.self.now in
    let seat = c.args.seat.now in
    OneRound guards guards (guards_of c.round.new.self) seat seat c.round.new.seat c.in-Ok.round.at (NoRound guards seat) c.in-Ok.ensures.had
