use Rattle.std.proofs.Common.{◌≡◌, drop}
use Rattle.plain.specs.Escapes.{are_whole}
use Rattle.plain.proofs.escapes.are_whole.Given as goal

abbrev pub invariant-loop-place : goal.invariant-loop-place
invariant-loop-place l = are_whole l.escaped ≡ are_whole (drop l.place l.escaped)
