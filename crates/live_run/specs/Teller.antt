-- A door that answers plain requests too.
use Rattle.live_run.specs.declared.teller.Teller.{Teller}

-- the door that it asks
abbrev pub door_of : {D M : Type 0} → Teller D M → D
door_of teller = teller.door.now
