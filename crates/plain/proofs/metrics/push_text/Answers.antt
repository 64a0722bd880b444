use Rattle.std.proofs.Common.{refl}
use Rattle.plain.specs.Metrics.{escaped_byte, label_text}
use Rattle.plain.proofs.MetricLemmas.{flat_pushed, flat_whole}
use Rattle.plain.proofs.metrics.push_text.Goals as goal

pub loop-c-preserved : goal.loop-c-preserved
loop-c-preserved c =
    flat_pushed label_text escaped_byte (λ x rest. refl) c.loop-c.c-index c.args.name.now 0 _ c.loop-c.text.items c.push_escaped.new.text.items c.loop-c.invariant c.loop-c-test.true
    c.in_ok-push_escaped.ensures

pub returns : goal.returns
returns c = flat_whole label_text refl c.loop-c.c-index c.args.name.now _ c.loop-c.text.items c.loop-c.invariant c.loop-c-test.false
