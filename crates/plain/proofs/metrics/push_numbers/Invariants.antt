use Rattle.std.proofs.Common.{◌≡◌, ◌++◌, drop}
use Rattle.plain.specs.Metrics.{number_sample}
use Rattle.plain.specs.Slots.{texts_from}
use Rattle.plain.proofs.metrics.push_numbers.Given as goal

abbrev pub invariant-loop-number : goal.invariant-loop-number
invariant-loop-number l =
    l.initial.text.items ++ texts_from (number_sample l.before l.numbers) 0 l.catalogue
    ≡ l.text.items ++ texts_from (number_sample l.before l.numbers) l.number (drop l.number l.catalogue)
