use Rattle.std.proofs.Common.{◌-◌, vec_len, vec_capacity}
use Rattle.control.proofs.ReadingLemmas.{IsReading}
use Rattle.control.proofs.reading.read_line.Given as goal

abbrev pub invariant-loop-byte : goal.invariant-loop-byte
invariant-loop-byte g l = IsReading (g.R.Read.remaining l.initial.reader) (g.R.Read.remaining l.reader) l.line.items (vec_capacity l.initial.line) (vec_capacity l.line)

abbrev pub decreases-loop-byte : goal.decreases-loop-byte
decreases-loop-byte g l = 65537 - vec_len l.line
