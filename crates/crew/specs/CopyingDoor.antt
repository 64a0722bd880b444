-- A door that tells from a copy.
use Rattle.crew.specs.declared.copying_door.CopyingDoor.{CopyingDoor}
use Rattle.crew.specs.declared.door.HallDoor.{HallDoor}

-- the door of which it copies the status changes
abbrev pub door_of : {R P K : Type 0} → CopyingDoor R P K → HallDoor R P K
door_of door = door.door
