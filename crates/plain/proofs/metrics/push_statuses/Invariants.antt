use Rattle.std.proofs.Common.{◌≡◌, ◌++◌, drop}
use Rattle.desk_core.specs.Board.{status_in}
use Rattle.plain.specs.Metrics.{status_sample}
use Rattle.plain.specs.Slots.{texts_from}
use Rattle.plain.proofs.metrics.push_statuses.Given as goal

abbrev pub invariant-loop-number : goal.invariant-loop-number
invariant-loop-number l =
    l.initial.text.items ++ texts_from (status_sample (status_in l.board)) 0 l.catalogue
    ≡ l.text.items ++ texts_from (status_sample (status_in l.board)) l.number (drop l.number l.catalogue)
