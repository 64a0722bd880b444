-- The connections that a loop holds.
use Rattle.std.specs.Prelude.{[]}
use Rattle.reactor.specs.Table.{TableState}
use Rattle.reactor.specs.declared.connection.Connection.{Connection}
use Rattle.reactor.specs.contracts.calling.CallMachine.TheImpl.{ghosts}
use Rattle.web_call.specs.declared.call.Call.{Call}
use Rattle.live_server.specs.declared.acceptor.Acceptor.{Acceptor}
use Rattle.live_server.specs.declared.caller.Caller.{Caller}
use Rattle.live_server.specs.declared.conversations.Conversations.{Conversations}
use Rattle.live_server.specs.declared.event_loop.EventLoop.{EventLoop}
use Rattle.live_server.specs.declared.places.ServerLimits.{ServerLimits}
use Rattle.live_server.specs.declared.places.Taken.{Taken}
use Rattle.live_server.specs.Held.{held_in, taken_in}

-- a loop over calls
abbrev pub EventServer : Type 0
EventServer = EventLoop Acceptor Caller Call ghosts

-- the table of the connections that a loop holds
abbrev pub held_by : {A S M : Type 0} {g : _} → EventLoop A S M g → TableState (Connection S M g)
held_by server = held_in server.conversations.held

abbrev pub table_of : {S M : Type 0} {g : _} → Conversations S M g → TableState (Connection S M g)
table_of conversations = held_in conversations.held

-- the places that a loop has taken
abbrev pub taken_by : {A S M : Type 0} {g : _} → EventLoop A S M g → Taken
taken_by server = taken_in server.conversations.held

-- a table with no connection yet
abbrev pub empty_table : {C : Type 0} → ServerLimits → TableState C
empty_table limits = record { places = []; taken = 0; ended = 0; most = limits.connections; most_watches = limits.watches }
