use Rattle.std.proofs.Common.{◌≡◌, take}
use Rattle.watchdog.specs.Guard.{met_in}
use Rattle.watchdog.proofs.guard.meet.Given as goal

abbrev pub invariant-loop-entry : goal.invariant-loop-entry
invariant-loop-entry l = l.timer ≡ met_in l.fn.seat l.fn.slot l.fn.now (take l.entry-index l.entries) l.fn.timer
