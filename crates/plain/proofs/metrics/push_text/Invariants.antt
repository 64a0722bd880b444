use Rattle.std.proofs.Common.{◌≡◌, ◌++◌, drop}
use Rattle.plain.specs.Metrics.{label_text}
use Rattle.plain.proofs.metrics.push_text.Given as goal

abbrev pub invariant-loop-c : goal.invariant-loop-c
invariant-loop-c l = l.initial.text.items ++ label_text l.name ≡ l.text.items ++ label_text (drop l.c-index l.name)
