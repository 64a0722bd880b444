-- The loop over the sessions of a server.
use Rattle.std.specs.Prelude.{Bool}
use Rattle.reactor.specs.Table.{TableState}
use Rattle.control.specs.declared.terms.Terms.{Terms}
use Rattle.live_server.specs.Loop.{held_by}
use Rattle.control_server.specs.Connection.{SessionConnection}
use Rattle.control_server.specs.declared.control_server.ControlServer.{ControlServer}

-- the table of the connections that it holds
abbrev pub sessions_of : ControlServer → TableState SessionConnection
sessions_of server = held_by server.sessions

-- what holds for its sessions
abbrev pub terms_of : ControlServer → Terms
terms_of server = server.terms

-- whether they come over TCP
abbrev pub is_over_tcp : ControlServer → Bool
is_over_tcp server = server.over_tcp
