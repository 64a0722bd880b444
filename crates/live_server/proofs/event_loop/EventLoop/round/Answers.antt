use Rattle.live_server.proofs.event_loop.EventLoop.round.Goals as goal

pub returns-then-is_waited_for-clause-stays : goal.returns-then-is_waited_for-clause-stays
returns-then-is_waited_for-clause-stays g c =
    let on = g.met.H.Handler.stays_on in
    on _ _ _ c.take_events.ensures.stays (on _ _ _ c.renew.ensures.stays (on _ _ _ c.take_events-2.ensures.stays (on _ _ _ c.look.ensures.stays c.accept.ensures.stays)))

pub returns-else-is_waited_for-clause-stays : goal.returns-else-is_waited_for-clause-stays
returns-else-is_waited_for-clause-stays g c =
    let on = g.met.H.Handler.stays_on in
    on _ _ _ c.take_events.ensures.stays (on _ _ _ c.renew.ensures.stays (on _ _ _ c.take_events-2.ensures.stays (on _ _ _ c.look.ensures.stays c.accept.ensures.stays)))
