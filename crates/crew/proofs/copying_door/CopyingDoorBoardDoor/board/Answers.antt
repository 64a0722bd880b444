use Rattle.std.proofs.Common.{true≢false, sym}
use Rattle.desk_core.proofs.TranscriptLemmas.{within_grows}
use Rattle.crew.specs.HallDoor.{door_seat}
use Rattle.crew.proofs.copying_door.CopyingDoorBoardDoor.board.Goals as goal

pub invariant_of-self : goal.invariant_of-self
invariant_of-self g c = record {
  copies = within_grows (door_seat c.args.self.now.door).seen (door_seat c.board-board.new.self).seen c.board-board.ensures.looks.looked.begins c.args.self.now.copies;
  current = λ is. absurd (true≢false (sym is));
}
