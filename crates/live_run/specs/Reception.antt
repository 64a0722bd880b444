-- What takes in the clients of both places.
use Rattle.live_run.specs.declared.reception.Reception.{Reception}

-- the door that it asks
abbrev pub door_of : {D M : Type 0} → Reception D M → D
door_of reception = reception.door.now
