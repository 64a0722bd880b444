use Rattle.std.proofs.Common.{◌++◌, ap, ◌∙◌, codes}
use Rattle.desk_core.specs.Board.{status_in}
use Rattle.plain.specs.Metrics.{label_of, level}
use Rattle.plain.proofs.MetricLemmas.{part_more}
use Rattle.plain.proofs.metrics.push_status.Goals as goal

pub returns : goal.returns
returns c =
    let old = c.args.text.now.items in
    let name = label_of c.args.name.now in
    let number = level (status_in c.args.board c.args.slot) in
    let begun = codes "healthd_service_status{service=\"" in
    let labelled = c.in_ok-push_label.ensures ∙ ap (λ text. c.extend_from_slice.new.self.items ++ label_of text) c.as_bytes.ensures.value in
    let told = c.in_ok-extend_from_slice-3.ensures.items
    ∙ ap (λ text. c.extend_from_slice-2.new.self.items ++ text) (c.level.ensures ∙ ap level c.board_status.ensures.value) in
    let first = part_more old begun name _ _ c.in_ok-extend_from_slice.ensures.items labelled in
    let second = part_more old (begun ++ name) (codes "\"} ") _ _ first c.in_ok-extend_from_slice-2.ensures.items in
    let third = part_more old (begun ++ name ++ codes "\"} ") number _ _ second told in
    part_more old (begun ++ name ++ codes "\"} " ++ number) (codes "\n") _ _ third c.in_ok-extend_from_slice-4.ensures.items
