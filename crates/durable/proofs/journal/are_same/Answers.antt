use Rattle.std.proofs.Common.{rules, ◌≡◌, ◌∙◌, ◌<◌, ◌∷◌, [], ◌++◌, ap, sym, length, take, arith}
use Rattle.std.proofs.lemmas.List.{map_more}
use Rattle.record_log.specs.Log.{texts}
use Rattle.durable.proofs.journal.are_same.Goals as goal

pub loop-number-preserved : goal.loop-number-preserved
loop-number-preserved c =
    let same : c.index-names-number.result.items ≡ c.index-other-number.result.items = search rules in
    let inside : c.loop-number.number < length c.args.other.now = omega (arith, c.loop-number-test.true, c.if-names-other.false) in
    map_more (λ one. one.items) c.args.names.now c.loop-number.number c.index-names-number.result c.loop-number-test.true
    ∙ ap (λ one. texts (take c.loop-number.number c.args.names.now) ++ one.items ∷ []) (sym c.index-names-number.is)
    ∙ ap (λ bytes. texts (take c.loop-number.number c.args.names.now) ++ bytes ∷ []) same
    ∙ ap (λ some. some ++ c.index-other-number.result.items ∷ []) c.loop-number.invariant
    ∙ ap (λ one. texts (take c.loop-number.number c.args.other.now) ++ one.items ∷ []) c.index-other-number.is
    ∙ sym (map_more (λ one. one.items) c.args.other.now c.loop-number.number c.index-other-number.result inside)
