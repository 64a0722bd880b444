use Rattle.std.proofs.Common.{sym, subst}
use Rattle.live_server.specs.Loop.{held_by}
use Rattle.live_server.specs.Settled.{KeepsAccount}
use Rattle.live_server.proofs.SettledLemmas.{account_on, account_same}
use Rattle.live_server.proofs.event_loop.EventLoop.accept.Goals as goal

pub loop-init : goal.loop-init
loop-init g c = record { account = account_same _; ready = c.requires.ready; stays = g.met.H.Handler.stays_self _ }

pub loop-preserved : goal.loop-preserved
loop-preserved g c = record {
  account = account_on c.loop.invariant.account c.accept_one.ensures.account;
  ready = c.accept_one.ensures.ready;
  stays = g.met.H.Handler.stays_on _ _ _ c.loop.invariant.stays c.accept_one.ensures.stays;
}

pub returns-then-round : goal.returns-then-round
returns-then-round g c = record {
  account = subst (KeepsAccount (held_by c.args.self.now)) (sym c.close.ensures) (account_same _);
  ready = c.requires.ready;
  stays = g.met.H.Handler.stays_self _;
}

pub returns-then-not-accepts : goal.returns-then-not-accepts
returns-then-not-accepts g c = record { account = c.loop.invariant.account; ready = c.loop.invariant.ready; stays = c.loop.invariant.stays }

pub returns : goal.returns
returns g c = record { account = c.loop.invariant.account; ready = c.loop.invariant.ready; stays = c.loop.invariant.stays }
