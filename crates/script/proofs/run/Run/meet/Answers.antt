use Rattle.std.proofs.Common.{ap, ◌∙◌}
use Rattle.desk_core.specs.Board.{board_of}
use Rattle.desk_core.specs.Catalogue.{slot_of}
use Rattle.desk_core.specs.Past.{past}
use Rattle.desk_core.specs.Status.{checked, status_map}
use Rattle.script.specs.Run.IsLineRun.{Changes, Steps}
use Rattle.script.proofs.ChangeLemmas.{asked}
use Rattle.script.proofs.LineRunLemmas.{of_kind, checks, opens_ok, packs}
use Rattle.script.proofs.run.Run.meet.Goals as goal

pub returns-in-Register : goal.returns-in-Register
returns-in-Register g c =
    Changes _ _ _ _ (asked _ _ _ _ _ (ap (λ run. run.names) c.self-in-Register.view_is) c.call.ensures.change c.unwrap-call.ensures) c.change.ensures.answered

pub returns-in-Check : goal.returns-in-Check
returns-in-Check g c = checks _ _ _ _ c.in-Check.is
    (c.check.ensures.status ∙ ap (checked (past c.self.inside.desk.journal)) (c.slot-slot.ensures.value ∙ ap (slot_of c.self.inside.catalogue) c.as_str.ensures)
    ∙ ap (λ run. status_map run.names run.entries c.in-Check.name) c.self.view_is)

pub returns-in-Open : goal.returns-in-Open
returns-in-Open g c =
    opens_ok _ _ _ _ _ _ c.in-Open.is
    (c.slot-slot-in-Open.ensures.value ∙ ap (slot_of c.self-in-Open.inside.catalogue) c.as_str-in-Open.ensures ∙ ap (λ run. slot_of run.names c.in-Open.name) c.self-in-Open.view_is)
    c.open.ensures.watch c.open.ensures.shown

pub returns-in-Step : goal.returns-in-Step
returns-in-Step g c = of_kind _ _ _ _ _ c.in-Step.is (Steps _ _ _ c.step.ensures)

pub returns-in-Board : goal.returns-in-Board
returns-in-Board g c = packs _ _ _ c.in-Board.is (c.board.ensures.word ∙ ap (λ run. board_of run.entries) c.self-in-Board.view_is)
