use Rattle.live_server.specs.Loop.{table_of}
use Rattle.live_server.specs.Settled.{KeepsAccount}
use Rattle.live_server.proofs.conversations.Conversations.look.Given as goal

abbrev pub invariant-loop : goal.invariant-loop
invariant-loop g l = record {
  account : KeepsAccount (table_of l.initial.self) (table_of l.self);
  ready : g.H.Handler.is_ready l.handler;
  stays : g.H.Handler.stays l.initial.handler l.handler;
}
