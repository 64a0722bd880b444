use Rattle.std.proofs.Common.{◌++◌, codes}
use Rattle.plain.specs.Metrics.{family, number_sample}
use Rattle.plain.specs.Slots.{texts_from}
use Rattle.plain.proofs.MetricLemmas.{part_more}
use Rattle.plain.proofs.metrics.push_expected.Goals as goal

pub returns : goal.returns
returns c =
    part_more c.args.text.now.items (family (codes "healthd_expected_seconds") (codes "Every how many seconds a report is expected, 0 if none is.") (codes "gauge"))
    (texts_from (number_sample (codes "healthd_expected_seconds{service=\"") c.args.figures.now.expected) 0 c.args.catalogue.now) _ _
    c.in_ok-extend_from_slice.ensures.items c.in_ok-push_numbers.ensures
