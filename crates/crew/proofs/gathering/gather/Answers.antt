use Rattle.std.proofs.Common.{◌≡◌, length, arith, rules}
use Rattle.std.proofs.lemmas.List.{places}
use Rattle.std.proofs.lemmas.Result.{IfOk-weaker, IfErr-weaker}
use Rattle.crew.proofs.GatherLemmas.{noted_same, places_are_gathered, places_fail}
use Rattle.crew.proofs.gathering.gather.Goals as goal

pub returns-clause-ok : goal.returns-clause-ok
returns-clause-ok c =
    let len : length c.deref_mut.result.now ≡ c.args.expected = omega (arith, c.in-Ok.ensures.len) in
    let same : c.note.new.places ≡ c.deref-3.result.now = search (rules, places) in
    let noted = noted_same _ _ _ _ _ _ len c.deref-2.ensures.value same c.in_ok-note.ensures.ok in
    IfOk-weaker c.ends_at.result _ _ (λ ends is. places_are_gathered _ _ _ ends.items noted is) c.ends_at.ensures.ok

pub returns-clause-err : goal.returns-clause-err
returns-clause-err c =
    let len : length c.deref_mut.result.now ≡ c.args.expected = omega (arith, c.in-Ok.ensures.len) in
    let same : c.note.new.places ≡ c.deref-3.result.now = search (rules, places) in
    let noted = noted_same _ _ _ _ _ _ len c.deref-2.ensures.value same c.in_ok-note.ensures.ok in
    IfErr-weaker c.ends_at.result _ _ (λ why is. places_fail _ _ _ why noted is) c.ends_at.ensures.err
