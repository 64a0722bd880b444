use Rattle.std.proofs.Common.{rules, ◌≡◌, ◌++◌, ap, ◌∙◌, codes, decimal}
use Rattle.std.specs.Prelude.{slice_index}
use Rattle.plain.specs.Metrics.{label_of}
use Rattle.plain.proofs.MetricLemmas.{part_more}
use Rattle.plain.proofs.metrics.push_number.Goals as goal

pub returns : goal.returns
returns c =
    let old = c.args.text.now.items in
    let before = c.args.before.now in
    let name = label_of c.args.name.now in
    let number = decimal (slice_index c.args.numbers.now c.args.slot) in
    let labelled = c.in_ok-push_label.ensures ∙ ap (λ text. c.extend_from_slice.new.self.items ++ label_of text) c.as_bytes.ensures.value in
    let same : c.from.result ≡ c.args.slot = search rules in
    let told = c.in_ok-extend_from_slice-3.ensures.items
    ∙ ap (λ text. c.extend_from_slice-2.new.self.items ++ text) (c.as_bytes-2.ensures.value ∙ c.in_ok-to_string.ensures.ok ∙ ap (λ i. decimal (slice_index c.args.numbers.now i)) same) in
    let first = part_more old before name _ _ c.in_ok-extend_from_slice.ensures.items labelled in
    let second = part_more old (before ++ name) (codes "\"} ") _ _ first c.in_ok-extend_from_slice-2.ensures.items in
    let third = part_more old (before ++ name ++ codes "\"} ") number _ _ second told in
    part_more old (before ++ name ++ codes "\"} " ++ number) (codes "\n") _ _ third c.in_ok-extend_from_slice-4.ensures.items
