use Rattle.std.proofs.Common.{true≢false, sym, ◌∙◌}
use Rattle.desk_core.proofs.TranscriptLemmas.{within_grows}
use Rattle.hall.proofs.LookingLemmas.{older_on}
use Rattle.crew.specs.HallDoor.{door_seat, stays_then}
use Rattle.crew.proofs.copying_door.CopyingDoorDoor.step.Goals as goal

pub invariant_of-self : goal.invariant_of-self
invariant_of-self g c = record {
  copies = within_grows (door_seat c.take_over.new.self.door).seen (door_seat c.step.new.self).seen c.step.ensures.follows c.take_over.new.self.copies;
  current = λ is. absurd (true≢false (sym is ∙ c.take_over.ensures.current ∙ c.if-not-take_over.true));
}

pub returns-then-not-take_over-clause-follows : goal.returns-then-not-take_over-clause-follows
returns-then-not-take_over-clause-follows g c =
    older_on (door_seat c.args.self.now.door).seen (door_seat c.take_over.new.self.door).seen (door_seat c.step.new.self).seen c.take_over.ensures.stays.looked.begins c.step.ensures.follows

pub returns-then-not-take_over-clause-stays : goal.returns-then-not-take_over-clause-stays
returns-then-not-take_over-clause-stays g c = stays_then c.args.self.now.door c.take_over.new.self.door c.step.new.self c.take_over.ensures.stays c.step.ensures.stays
