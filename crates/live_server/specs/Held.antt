-- The connections that a loop holds, each in a place.
use Rattle.reactor.specs.Table.{TableState}
use Rattle.reactor.specs.declared.connection.Connection.{Connection}
use Rattle.live_server.specs.declared.held.Held.{Held}
use Rattle.live_server.specs.declared.places.Taken.{Taken}

-- the table of the connections that are held
abbrev pub held_in : {S M : Type 0} {g : _} → Held S M g → TableState (Connection S M g)
held_in held = held.table

-- the places that were taken for them
abbrev pub taken_in : {S M : Type 0} {g : _} → Held S M g → Taken
taken_in held = held.taken
