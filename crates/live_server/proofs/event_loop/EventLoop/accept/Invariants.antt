use Rattle.live_server.specs.Loop.{held_by}
use Rattle.live_server.specs.Settled.{KeepsAccount}
use Rattle.live_server.proofs.event_loop.EventLoop.accept.Given as goal

abbrev pub invariant-loop : goal.invariant-loop
invariant-loop g l = record {
  account : KeepsAccount (held_by l.initial.self) (held_by l.self);
  ready : g.H.Handler.is_ready l.handler;
  stays : g.H.Handler.stays l.initial.handler l.handler;
}
