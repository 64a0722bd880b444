use Rattle.std.proofs.Common.{ap, sym}
use Rattle.reactor.specs.Table.{is_watch, place_at}
use Rattle.live_server.proofs.PlacesLemmas.{placed_still}
use Rattle.live_server.proofs.SettledLemmas.{held_so, others_kept, settled_now, some_of}
use Rattle.live_server.proofs.held.Held.turn.Goals as goal

pub returns-clause-others : goal.returns-clause-others
returns-clause-others g c =
    let table = c.args.self.now.table in
    let connection = c.turn-left.new.connection in
    let held = held_so (place_at table c.args.key) c.in_ok-connection.connection.now (sym c.in_ok-connection.ensures.value) in
    others_kept table _ c.args.key connection _ (c.one_key_changes.ensures.connection table c.args.key connection held) c.count.ensures

pub returns-clause-ended : goal.returns-clause-ended
returns-clause-ended g c = λ ends over.
    let table = c.args.self.now.table in
    let connection = c.turn-left.new.connection in
    let held = held_so (place_at table c.args.key) c.in_ok-connection.connection.now (sym c.in_ok-connection.ensures.value) in
    settled_now g.M.Machine.watches g.M.Machine.waiting table _ c.args.key connection (c.one_key_changes.ensures.connection table c.args.key connection held) c.count.ensures
    (c.turn-left.ensures.ended ends over)

pub invariant_of-self-2 : goal.invariant_of-self-2
invariant_of-self-2 g c = record {
  placed =
      let table = c.args.self.now.table in
      let connection = c.turn-left.new.connection in
      let held = held_so (place_at table c.args.key) c.in_ok-connection.connection.now (sym c.in_ok-connection.ensures.value) in
      let was = some_of (place_at table c.args.key) held in
      placed_still c.args.self.now.taken table _ c.args.key was.0 _ was.1 (ap is_watch was.1) (c.one_key_changes.ensures.connection table c.args.key connection held) c.args.self.now.placed;
}
