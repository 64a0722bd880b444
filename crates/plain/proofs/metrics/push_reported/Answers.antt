use Rattle.std.proofs.Common.{◌++◌, codes}
use Rattle.plain.specs.Metrics.{family, number_sample}
use Rattle.plain.specs.Slots.{texts_from}
use Rattle.plain.proofs.MetricLemmas.{part_more}
use Rattle.plain.proofs.metrics.push_reported.Goals as goal

pub returns : goal.returns
returns c =
    part_more c.args.text.now.items (family (codes "healthd_last_report_timestamp_seconds") (codes "When the service was reported last, 0 if not since the start.") (codes "gauge"))
    (texts_from (number_sample (codes "healthd_last_report_timestamp_seconds{service=\"") c.args.figures.now.reported) 0 c.args.catalogue.now) _ _
    c.in_ok-extend_from_slice.ensures.items c.in_ok-push_numbers.ensures
