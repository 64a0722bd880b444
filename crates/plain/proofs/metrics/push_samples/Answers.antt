use Rattle.std.proofs.Common.{map, refl}
use Rattle.std.specs.Prelude.{flat_map}
use Rattle.plain.specs.Metrics.{metric_of, metric_text}
use Rattle.plain.proofs.MetricLemmas.{flat_pushed, flat_whole}
use Rattle.plain.proofs.metrics.push_samples.Goals as goal

pub loop-sample-preserved : goal.loop-sample-preserved
loop-sample-preserved c =
    flat_pushed (λ samples. flat_map metric_text (map metric_of samples)) (λ sample. metric_text (metric_of sample)) (λ x rest. refl)
    c.loop-sample.sample-index c.args.samples.now _ _ c.loop-sample.text.items c.push_sample.new.text.items c.loop-sample.invariant c.loop-sample-test.true
    c.in_ok-push_sample.ensures

pub returns : goal.returns
returns c =
    flat_whole (λ samples. flat_map metric_text (map metric_of samples)) refl c.loop-sample.sample-index c.args.samples.now _ c.loop-sample.text.items
    c.loop-sample.invariant c.loop-sample-test.false
