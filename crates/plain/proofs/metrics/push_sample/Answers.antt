use Rattle.std.proofs.Common.{◌++◌, ap, ◌∙◌, codes, decimal}
use Rattle.plain.proofs.MetricLemmas.{part_last, part_more}
use Rattle.plain.proofs.metrics.push_sample.Goals as goal

pub returns : goal.returns
returns c =
    let old = c.args.text.now.items in
    let before = c.args.sample.now.before.now in
    let number = decimal c.args.sample.now.value in
    let told = c.in_ok-extend_from_slice-2.ensures.items
    ∙ ap (λ text. c.extend_from_slice.new.self.items ++ text) (c.as_bytes.ensures.value ∙ c.in_ok-to_string.ensures.ok) in
    let first = part_more old before number _ _ c.in_ok-extend_from_slice.ensures.items told in
    part_last _ old (before ++ number) (codes "\n") _ _ first c.extend_from_slice-3.ensures.items
