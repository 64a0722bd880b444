use Rattle.live_server.proofs.SettledLemmas.{account_on, account_same}
use Rattle.live_server.proofs.event_loop.EventLoop.run.Goals as goal

pub loop-init : goal.loop-init
loop-init g c = record { account = account_same _; ready = c.requires.ready; stays = g.met.H.Handler.stays_self _ }

pub loop-preserved : goal.loop-preserved
loop-preserved g c = record {
  account = account_on c.loop.invariant.account c.round.ensures.account;
  ready = c.round.ensures.ready;
  stays = g.met.H.Handler.stays_on _ _ _ c.loop.invariant.stays c.round.ensures.stays;
}

pub returns-then-connections-eq0-clause-account : goal.returns-then-connections-eq0-clause-account
returns-then-connections-eq0-clause-account g c = account_on c.loop.invariant.account c.round.ensures.account

pub returns-then-connections-eq0-clause-stays : goal.returns-then-connections-eq0-clause-stays
returns-then-connections-eq0-clause-stays g c = g.met.H.Handler.stays_on _ _ _ c.loop.invariant.stays c.round.ensures.stays
