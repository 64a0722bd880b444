use Rattle.std.proofs.Common.{sym, ◌∙◌}
use Rattle.crew.specs.HallDoor.{door_seat}
use Rattle.crew.proofs.CopyLemmas.{is_taken_over, taken_over}
use Rattle.crew.proofs.copying_door.CopyingDoor.take_over.Goals as goal

pub invariant_of-self : goal.invariant_of-self
invariant_of-self g c =
    let made = c.copy_to.ensures in
    record {
      copies = taken_over c.copy_to.result (door_seat c.args.self.now.door).seen (door_seat c.copy_to.new.self).seen made.stays.looked.begins c.args.self.now.copies made.copied made.left;
      current = λ is. is_taken_over c.copy_to.result made.copied (sym c.is_ok-self.ensures.value ∙ is);
    }
