use Rattle.std.proofs.Common.{◌++◌, ap, ◌∙◌, map}
use Rattle.std.specs.Prelude.{flat_map}
use Rattle.desk_core.specs.Board.{entries_in, status_in}
use Rattle.plain.specs.Metrics.{figures_text, history_metrics, metric_of, metric_text, status_metrics}
use Rattle.plain.proofs.MetricLemmas.{metrics_more}
use Rattle.plain.proofs.metrics.metrics_text.Goals as goal

pub returns-clause-text : goal.returns-clause-text
returns-clause-text c =
    let figures = c.args.figures.now in
    let statuses = status_metrics (status_in c.args.board) c.args.catalogue.now in
    let history = history_metrics (entries_in c.args.board) figures in
    let counted = c.history_samples.ensures ∙ ap (λ n. history_metrics n figures) c.board_entries.ensures.value in
    let first = metrics_more _ statuses _ (map metric_of c.history_samples.result) history c.in_ok-push_samples.ensures counted c.in_ok-text.ensures.text in
    c.in_ok-push_figures.ensures ∙ ap (λ text. text ++ figures_text c.args.catalogue.now figures) first
