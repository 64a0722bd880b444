use Rattle.live_server.proofs.SettledLemmas.{account_on, account_same}
use Rattle.live_server.proofs.rounds.take_events.Goals as goal

pub loop-event-init : goal.loop-event-init
loop-event-init g c = record { account = account_same _; ready = c.requires.ready; stays = g.met.H.Handler.stays_self _ }

pub loop-event-preserved : goal.loop-event-preserved
loop-event-preserved g c = c.loop-event.invariant

pub loop-event-preserved-else-is_watching : goal.loop-event-preserved-else-is_watching
loop-event-preserved-else-is_watching g c = record {
  account = account_on c.loop-event.invariant.account c.turn.ensures.account;
  ready = c.turn.ensures.ready;
  stays = g.met.H.Handler.stays_on _ _ _ c.loop-event.invariant.stays c.turn.ensures.stays;
}

pub loop-event-preserved-then-is_watching : goal.loop-event-preserved-then-is_watching
loop-event-preserved-then-is_watching g c = c.loop-event.invariant

pub loop-event-preserved-then-this : goal.loop-event-preserved-then-this
loop-event-preserved-then-this g c = record {
  account = account_on c.loop-event.invariant.account c.meet_event.ensures.account;
  ready = c.meet_event.ensures.ready;
  stays = g.met.H.Handler.stays_on _ _ _ c.loop-event.invariant.stays c.meet_event.ensures.stays;
}

pub loop-event-preserved-else-this : goal.loop-event-preserved-else-this
loop-event-preserved-else-this g c = c.loop-event.invariant

pub returns : goal.returns
returns g c = c.loop-event.invariant
