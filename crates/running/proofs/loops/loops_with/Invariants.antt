use Rattle.std.proofs.Common.{◌≡◌, length}
use Rattle.running.specs.Run.{AreLoopsOf}
use Rattle.running.proofs.loops.loops_with.Given as goal

abbrev pub invariant-loop : goal.invariant-loop
invariant-loop g l = (length l.servers.items ≡ l.counter) × AreLoopsOf l.fn.limits l.servers.items
