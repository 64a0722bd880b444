use Rattle.std.proofs.Common.{take}
use Rattle.std.specs.Prelude.{All}
use Rattle.journal_lines.specs.Journal.{IsNamed}
use Rattle.journal_lines.proofs.names.first_unnamed.Given as goal

abbrev pub invariant-loop-number : goal.invariant-loop-number
invariant-loop-number l = All (λ one. IsNamed l.names one.entry.call) (take l.number l.stored)
