use Rattle.std.proofs.Common.{sym}
use Rattle.reactor.specs.Table.{place_at, with_connection}
use Rattle.live_server.proofs.SettledLemmas.{held_so, settled_still}
use Rattle.live_server.proofs.held.Held.put_off.Goals as goal

pub returns-in-Some-clause-settled : goal.returns-in-Some-clause-settled
returns-in-Some-clause-settled g c =
    let table = c.args.self.now.table in
    let held = sym c.in-Some.ensures.value in
    settled_still g.M.Machine.watches g.M.Machine.waiting table (with_connection table c.args.key c.put_off.new.self) c.args.key c.in-Some.connection.now c.put_off.new.self held
    c.put_off.ensures.looks
    (c.one_key_changes.ensures.connection table c.args.key c.put_off.new.self (held_so (place_at table c.args.key) c.in-Some.connection.now held))
