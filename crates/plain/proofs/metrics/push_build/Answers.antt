use Rattle.std.proofs.Common.{◌++◌, ap, ◌∙◌, codes}
use Rattle.plain.specs.declared.version.TheConstants.{VERSION}
use Rattle.plain.specs.Metrics.{family}
use Rattle.plain.proofs.MetricLemmas.{part_more}
use Rattle.plain.proofs.metrics.push_build.Goals as goal

pub returns : goal.returns
returns c =
    let old = c.args.text.now.items in
    let front = family (codes "healthd_build_info") (codes "The version of the program.") (codes "gauge") ++ codes "healthd_build_info{version=\"" in
    let told = c.in_ok-extend_from_slice-2.ensures.items ∙ ap (λ text. c.extend_from_slice.new.self.items ++ text) c.as_bytes.ensures.value in
    let second = part_more old front VERSION.now _ _ c.in_ok-extend_from_slice.ensures.items told in
    part_more old (front ++ VERSION.now) (codes "\"} 1\n") _ _ second c.in_ok-extend_from_slice-3.ensures.items
