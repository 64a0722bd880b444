use Rattle.std.proofs.Common.{◌≡◌, true, sym, subst}
use Rattle.reactor.specs.Table.{place_at}
use Rattle.live_server.specs.Settled.{AreSettledBut, is_settled}
use Rattle.live_server.proofs.SettledLemmas.{account_on, settled_all, settled_others}
use Rattle.live_server.proofs.conversations.Conversations.turn_of.Goals as goal

pub invariant_of-self-in-Over : goal.invariant_of-self-in-Over
invariant_of-self-in-Over g c = record {
  settled =
      let watches = g.M.Machine.watches in
      let waiting = g.M.Machine.waiting in
      c.remove.ensures.settled (settled_others watches waiting c.args.key _ _ c.turn.ensures.others (λ other _. c.args.self.now.settled other));
}

pub returns-in-Over : goal.returns-in-Over
returns-in-Over g c = record { account = account_on c.turn.ensures.others.account c.remove.ensures.account; ready = c.turn.ensures.ready; stays = c.turn.ensures.stays }

pub invariant_of-self-then-admit : goal.invariant_of-self-then-admit
invariant_of-self-then-admit g c = record {
  settled =
      let watches = g.M.Machine.watches in
      let waiting = g.M.Machine.waiting in
      c.admit.ensures.settled c.if-admit.true (settled_others watches waiting c.args.key _ _ c.turn.ensures.others (λ other _. c.args.self.now.settled other));
}

pub invariant_of-self-then-not-is_watching : goal.invariant_of-self-then-not-is_watching
invariant_of-self-then-not-is_watching g c = record {
  settled =
      let watches = g.M.Machine.watches in
      let waiting = g.M.Machine.waiting in
      settled_all watches waiting c.args.key c.turn.new.self.table (settled_others watches waiting c.args.key _ _ c.turn.ensures.others (λ other _. c.args.self.now.settled other))
      (subst (λ table. is_settled watches waiting (place_at table c.args.key) ≡ true) c.table.ensures (c.is_watching.ensures c.if-not-is_watching.true));
}

pub invariant_of-self-in-Over-left : goal.invariant_of-self-in-Over-left
invariant_of-self-in-Over-left g c = record {
  settled =
      let watches = g.M.Machine.watches in
      let waiting = g.M.Machine.waiting in
      let before = settled_others watches waiting c.args.key _ _ c.turn.ensures.others (λ other _. c.args.self.now.settled other) in
      let refused = subst (λ table. AreSettledBut watches waiting c.args.key table) (sym (c.admit.ensures.refused c.if-admit.false)) before in
      c.remove-in-Over-left.ensures.settled (settled_others watches waiting c.args.key _ _ c.turn-2.ensures.others refused);
}

pub returns-in-Over-left : goal.returns-in-Over-left
returns-in-Over-left g c = record {
  account = account_on c.turn.ensures.others.account (account_on c.admit.ensures.account (account_on c.turn-2.ensures.others.account c.remove-in-Over-left.ensures.account));
  ready = c.turn-2.ensures.ready;
  stays = g.met.H.Handler.stays_on _ _ _ c.turn.ensures.stays c.turn-2.ensures.stays;
}

pub returns-in_default-left : goal.returns-in_default-left
returns-in_default-left g c = record {
  account = account_on c.turn.ensures.others.account (account_on c.admit.ensures.account c.turn-2.ensures.others.account);
  ready = c.turn-2.ensures.ready;
  stays = g.met.H.Handler.stays_on _ _ _ c.turn.ensures.stays c.turn-2.ensures.stays;
}

pub returns-in_err-left-2 : goal.returns-in_err-left-2
returns-in_err-left-2 g c = record {
  account = account_on c.turn.ensures.others.account (account_on c.admit.ensures.account c.turn-2.ensures.others.account);
  ready = c.turn-2.ensures.ready;
  stays = g.met.H.Handler.stays_on _ _ _ c.turn.ensures.stays c.turn-2.ensures.stays;
}
