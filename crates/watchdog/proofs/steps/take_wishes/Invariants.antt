use Rattle.std.proofs.Common.{◌≡◌, vec_len}
use Rattle.watchdog.specs.Watching.{HaveWished}
use Rattle.watchdog.proofs.steps.take_wishes.Given as goal

abbrev pub invariant-loop-place : goal.invariant-loop-place
invariant-loop-place l = (vec_len l.guards ≡ vec_len l.fn.guards) × HaveWished l.fn.guards.items l.guards.items
