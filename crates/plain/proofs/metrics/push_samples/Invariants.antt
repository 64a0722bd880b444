use Rattle.std.proofs.Common.{◌≡◌, ◌++◌, drop, map}
use Rattle.std.specs.Prelude.{flat_map}
use Rattle.plain.specs.Metrics.{metric_of, metric_text}
use Rattle.plain.proofs.metrics.push_samples.Given as goal

abbrev pub invariant-loop-sample : goal.invariant-loop-sample
invariant-loop-sample l =
    l.initial.text.items ++ flat_map metric_text (map metric_of l.samples)
    ≡ l.text.items ++ flat_map metric_text (map metric_of (drop l.sample-index l.samples))
