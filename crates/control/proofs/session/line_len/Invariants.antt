use Rattle.std.proofs.Common.{◌≡◌, ◌+◌, drop, length}
use Rattle.control.specs.Session.{first_line}
use Rattle.control.proofs.session.line_len.Given as goal

abbrev pub invariant-loop-place : goal.invariant-loop-place
invariant-loop-place l = length (first_line l.bytes) ≡ l.place + length (first_line (drop l.place l.bytes))
