use Rattle.live_run.specs.Watched.{guards_in}
use Rattle.watchdog.specs.Watching.{NoRound}
use Rattle.live_run.proofs.WatchLemmas.{watched_then}
use Rattle.live_run.proofs.watchdog_loop.WatchdogLoop.rounds.Goals as goal

pub loop-init : goal.loop-init
loop-init g c = (tt, tt, c.requires.ours, NoRound (guards_in c.args.self.now) c.args.seat.now)

pub loop-preserved-then-is_err : goal.loop-preserved-then-is_err
loop-preserved-then-is_err g c = (
  tt,
  tt,
  c.round-patience.ensures.ours,
  watched_then g.K.Keep.kept (guards_in c.args.self.now) (guards_in c.loop.self) (guards_in c.round-patience.new.self) c.args.seat.now c.loop.seat c.round-patience.new.seat
      c.loop.invariant.3 c.round-patience.ensures.watched,
)

pub loop-preserved : goal.loop-preserved
loop-preserved g c = (
  tt,
  tt,
  c.round-patience.ensures.ours,
  watched_then g.K.Keep.kept (guards_in c.args.self.now) (guards_in c.loop.self) (guards_in c.round-patience.new.self) c.args.seat.now c.loop.seat c.round-patience.new.seat
      c.loop.invariant.3 c.round-patience.ensures.watched,
)
