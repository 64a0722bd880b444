use Rattle.std.proofs.Common.{◌∙◌, map, ap, sym, rules, None, Some, Contains}
use Rattle.crew.proofs.GatherLemmas.{all_filled}
use Rattle.crew.proofs.gathering.ends_at.Goals as goal

pub returns-in-Ok-clause-ok : goal.returns-in-Ok-clause-ok
returns-in-Ok-clause-ok c =
    let full : ¬ Contains c.args.places.now None = search rules in
    all_filled c.args.places.now full ∙ ap (map Some) (sym c.in-Ok.ensures)
