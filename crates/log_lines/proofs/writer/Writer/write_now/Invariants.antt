use Rattle.std.proofs.Common.{◌≡◌, length}
use Rattle.log_lines.specs.Writer.{IsRestOf}
use Rattle.log_lines.proofs.writer.Writer.write_now.Given as goal

abbrev pub invariant-loop-self : goal.invariant-loop-self
invariant-loop-self l =
    (l.self-inside.outlet ≡ l.initial.self-inside.outlet) ×
    (l.self-inside.dropped ≡ l.initial.self-inside.dropped) ×
    IsRestOf l.initial.self-inside.waiting l.self-inside.waiting

abbrev pub decreases-loop-self : goal.decreases-loop-self
decreases-loop-self l = length l.self-inside.waiting
