use Rattle.std.proofs.Common.{arith, ◌≡◌, length}
use Rattle.std.specs.Prelude.{codes}
use Rattle.journal_store.proofs.PrefaceLemmas.{same_text, two_parts, title_parts}
use Rattle.journal_store.proofs.title.Title.read.Goals as goal

pub returns-clause-some : goal.returns-clause-some
returns-clause-some c =
    let bytes = c.args.bytes.now in
    let one = c.split_at in
    let two = c.split_at-2 in
    let three = c.split_at-3 in
    let last : length three.result.1.now ≡ 1 = omega arith in
    let text : one.result.0.now ≡ codes "healthd journal 1" = same_text one.result.0.now (codes "healthd journal 1") c.if-ne.ensures in
    title_parts bytes one.result.0.now one.result.1.now two.result.0.now two.result.1.now three.result.0.now three.result.1.now c.u64_of.result c.u32_of.result
    (two_parts bytes _ _ 17 one.ensures.front one.ensures.back) (two_parts one.result.1.now _ _ 8 two.ensures.front two.ensures.back) (two_parts two.result.1.now _ _ 4 three.ensures.front three.ensures.back)
    last text c.u64_of.ensures c.u32_of.ensures
