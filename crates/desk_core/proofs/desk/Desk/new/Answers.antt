use Rattle.std.proofs.Common.{[], sym, subst, rules, ◌∙◌}
use Rattle.desk_core.specs.Latest.{AreLatest}
use Rattle.desk_core.specs.Left.{Holds, nothing_left}
use Rattle.desk_core.specs.Marks.{HasMarks}
use Rattle.desk_core.specs.Past.{past}
use Rattle.desk_core.proofs.HistoryLemmas.{keeps_none}
use Rattle.desk_core.proofs.LeftLemmas.{nothing_held}
use Rattle.desk_core.proofs.DeskLemmas.{is_desk_new}
use Rattle.desk_core.proofs.desk.Desk.new.Goals as goal

pub invariant_of-result : goal.invariant_of-result
invariant_of-result g c = (
  is_desk_new c.args.max_entries _ _ _ _ _ (keeps_none c.args.max_entries (search rules)) c.new.ensures c.new-2.ensures.journal
      c.new-2.ensures.changes c.new-2.ensures.statuses c.new-2.ensures.dependents,
  c.new-2.ensures.kept.0 ∙ c.kept.ensures,
  c.new-2.ensures.kept.1 ∙ c.kept.ensures,
  subst (λ js. HasMarks (past js) c.new-3.result.shut c.new-3.result.slots) (sym c.new-2.ensures.journal) c.new-3.ensures,
  subst (λ js. AreLatest (past js) c.new-4.result.slots) (sym c.new-2.ensures.journal) c.new-4.ensures,
  tt,
  subst (Holds nothing_left) (sym c.new-2.ensures.journal) (nothing_held []),
)
