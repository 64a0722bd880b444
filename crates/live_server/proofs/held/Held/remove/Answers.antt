use Rattle.std.proofs.Common.{arith}
use Rattle.live_server.proofs.held.Held.remove.Goals as goal
use Rattle.live_server.proofs.PlacesLemmas.{fewer_held, fewer_watches}

pub keep-requires-clause-connections : goal.keep-requires-clause-connections
keep-requires-clause-connections g c =
    omega (arith, c.len.ensures.count, c.args.self.now.placed.connections, fewer_held c.args.self.now.table c.remove-connection.new.self c.args.key c.remove-connection.ensures.freed)

pub keep-requires-clause-watches : goal.keep-requires-clause-watches
keep-requires-clause-watches g c =
    omega (arith, c.watches.ensures, c.args.self.now.placed.watches, fewer_watches c.args.self.now.table c.remove-connection.new.self c.args.key c.remove-connection.ensures.freed)
