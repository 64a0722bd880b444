use Rattle.live_server.specs.Loop.{table_of}
use Rattle.live_server.specs.Settled.{KeepsAccount}
use Rattle.live_server.proofs.rounds.take_events.Given as goal

abbrev pub invariant-loop-event : goal.invariant-loop-event
invariant-loop-event g l = record {
  account : KeepsAccount (table_of l.initial.conversations) (table_of l.conversations);
  ready : g.H.Handler.is_ready l.handler;
  stays : g.H.Handler.stays l.initial.handler l.handler;
}
