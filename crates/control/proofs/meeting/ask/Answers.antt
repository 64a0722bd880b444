use Rattle.std.proofs.Common.{refl, sym, ap, ◌∙◌}
use Rattle.control.specs.Known.Known.{Stands, Recalls}
use Rattle.control.specs.Known.IsToldOf.{TellsWhy, TellsStatus}
use Rattle.control.proofs.MeetingLemmas.{asked, asked_none, entry_told}
use Rattle.control.proofs.meeting.ask.Goals as goal

pub returns-in-Some-clause-met : goal.returns-in-Some-clause-met
returns-in-Some-clause-met g c =
    asked _ _ _ _ _ _ _ _ _ _ _ _ _ c.in-Why.is (record { looked = c.standing.ensures.looks; server = refl })
    (TellsWhy _ c.in-Some.slot _ (sym c.in-Some.ensures) (ap Stands c.standing.ensures.standing))

pub returns-in-None-clause-met : goal.returns-in-None-clause-met
returns-in-None-clause-met g c = asked_none _ _ _ _ _ _ _ _ _ _ _ _ c.in-Why.is refl (sym c.in-None.ensures)

pub returns-in-Some-slot_named-clause-met : goal.returns-in-Some-slot_named-clause-met
returns-in-Some-slot_named-clause-met g c =
    asked _ _ _ _ _ _ _ _ _ _ _ _ _ c.in-Status.is (record { looked = c.standing-standing.ensures.looks; server = refl })
    (TellsStatus _ c.in-Some-slot_named.slot _ (sym c.in-Some-slot_named.ensures) (ap Stands (c.describe.ensures ∙ c.standing-standing.ensures.standing)))

pub returns-in-None-slot_named-clause-met : goal.returns-in-None-slot_named-clause-met
returns-in-None-slot_named-clause-met g c = asked_none _ _ _ _ _ _ _ _ _ _ _ _ c.in-Status.is refl (sym c.in-None-slot_named.ensures)

pub returns-in-Entry-clause-met : goal.returns-in-Entry-clause-met
returns-in-Entry-clause-met g c =
    asked _ _ _ _ _ _ _ _ _ _ _ _ _ c.in-Entry.is (record { looked = c.recall-recall.ensures.looks; server = refl })
    (entry_told _ _ _ c.recollect.result c.recollect.ensures.place (ap Recalls (c.recollect.ensures.recall ∙ c.recall-recall.ensures.recalled)))
