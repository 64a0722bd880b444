use Rattle.std.proofs.Common.{sym, subst}
use Rattle.desk_core.specs.Marks.{IsRuleFor}
use Rattle.desk_core.specs.Past.{past}
use Rattle.desk_core.proofs.desk.Desk.rule_for.Goals as goal

pub returns-in-Observe : goal.returns-in-Observe
returns-in-Observe g c = subst (λ call. IsRuleFor (past c.args.self.now.journal) call c.rule.result) (sym c.in-Observe.is) c.rule.ensures
