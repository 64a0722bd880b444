use Rattle.std.proofs.Common.{◌<◌, ap, ◌∙◌, rules}
use Rattle.desk_core.specs.Past.{past}
use Rattle.desk_core.specs.Present.{rule_at}
use Rattle.desk_core.proofs.DeskLemmas.{rule_of_parts}
use Rattle.desk_core.proofs.desk.Desk.rule.Goals as goal

pub returns : goal.returns
returns g c =
    let in_range : c.args.slot < 16 = search rules in
    c.rule.ensures ∙ rule_of_parts _ _ _ _ c.args.slot c.self.invariant.0.parts in_range ∙ ap (λ state. rule_at (past state.journal) c.args.slot) c.self.view_is
