use Rattle.std.proofs.Common.{◌≡◌, false}
use Rattle.journal_lines.proofs.LineLemmas.{ArePrintedTo}
use Rattle.journal_lines.proofs.printing.print_each.Given as goal

abbrev pub invariant-loop-place : goal.invariant-loop-place
invariant-loop-place g l = l.is_json ≡ false → ArePrintedTo l.journal.preface l.journal.stored.items l.place (g.O.Write.contents l.initial.output) (g.O.Write.contents l.output)
