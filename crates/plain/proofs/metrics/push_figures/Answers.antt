use Rattle.std.proofs.Common.{◌++◌, ap, ◌∙◌, map, refl}
use Rattle.std.specs.Prelude.{flat_map}
use Rattle.plain.specs.Metrics.{build_text, ended_metrics, expected_metrics, metric_of, metric_text, open_metrics, refused_metrics, reported_metrics, server_metrics}
use Rattle.plain.proofs.MetricLemmas.{part_more, samples_more}
use Rattle.plain.proofs.metrics.push_figures.Goals as goal

pub returns : goal.returns
returns c =
    let old = c.args.text.now.items in
    let names = c.args.catalogue.now in
    let figures = c.args.figures.now in
    let reported = reported_metrics figures names in
    let expected = reported ++ expected_metrics figures names in
    let build = expected ++ build_text in
    let server = build ++ flat_map metric_text (server_metrics figures) in
    let open_ones = server ++ flat_map metric_text (open_metrics figures) in
    let ended = open_ones ++ flat_map metric_text (ended_metrics figures) in
    let second = part_more old reported (expected_metrics figures names) _ _ c.in_ok-push_reported.ensures c.in_ok-push_expected.ensures in
    let third = part_more old expected build_text _ _ second c.in_ok-push_build.ensures in
    let fourth = samples_more old build _ _ _ _ third c.in_ok-push_samples.ensures c.server_samples.ensures in
    let fifth = samples_more old server _ _ _ _ fourth c.in_ok-push_samples-2.ensures c.open_samples.ensures in
    let sixth = samples_more old open_ones _ _ _ _ fifth c.in_ok-push_samples-3.ensures c.ended_samples.ensures in
    samples_more old ended _ _ _ _ sixth c.in_ok-push_samples-4.ensures c.refused_samples.ensures
