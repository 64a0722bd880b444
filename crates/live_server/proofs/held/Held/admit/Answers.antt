use Rattle.reactor.specs.Table.{place_at, with_watch}
use Rattle.live_server.proofs.PlacesLemmas.{placed_admitted}
use Rattle.live_server.proofs.SettledLemmas.{account_admitted, account_same, held_got, settled_admitted, some_of}
use Rattle.live_server.proofs.held.Held.admit.Goals as goal

pub returns-then-is_admitted-clause-account : goal.returns-then-is_admitted-clause-account
returns-then-is_admitted-clause-account g c = account_same _

pub returns-clause-account : goal.returns-clause-account
returns-clause-account g c = account_admitted c.args.self.now.table c.admit.new.self c.args.key c.admit.result c.admit.ensures.marked c.admit.ensures.refused

pub returns-clause-settled : goal.returns-clause-settled
returns-clause-settled g c = λ is others.
    let table = c.args.self.now.table in
    settled_admitted g.M.Machine.watches g.M.Machine.waiting table c.admit.new.self c.args.key (c.one_key_changes.ensures.watch table c.args.key) (c.admit.ensures.admitted.0 is).held (c.admit.ensures.marked is) others

pub invariant_of-self-2 : goal.invariant_of-self-2
invariant_of-self-2 g c = record {
  placed =
      let table = c.args.self.now.table in
      let was = some_of (place_at table c.args.key) (held_got (place_at table c.args.key) c.get.result c.get.ensures c.if-is_none.ensures) in
      placed_admitted c.args.self.now.taken c.watch.new.self table (with_watch table c.args.key) c.admit.new.self c.args.key was.0 c.is_admitted.result c.admit.result was.1 c.is_admitted.ensures c.if-is_admitted.false
      (c.watch.ensures.few c.if-not-watch.false) (c.watch.ensures.taken c.if-not-watch.false) c.admit.ensures.admitted.1 c.admit.ensures.marked
      (c.one_key_changes.ensures.watch table c.args.key was.0 was.1) c.args.self.now.placed;
}
