use Rattle.std.proofs.Common.{ℕ, ◌≡◌, ◌<◌, get_or, suc}
use Rattle.grpc_frame.proofs.lines.first_line.Given as goal

abbrev pub invariant-loop-i : goal.invariant-loop-i
invariant-loop-i l = (k : ℕ) → suc k < l.i → get_or l.bytes k 0 ≡ 13 → get_or l.bytes (suc k) 0 ≡ 10 → ⊥
