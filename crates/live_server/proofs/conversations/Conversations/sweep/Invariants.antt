use Rattle.live_server.specs.Loop.{table_of}
use Rattle.live_server.specs.Settled.{KeepsAccount}
use Rattle.live_server.proofs.conversations.Conversations.sweep.Given as goal

abbrev pub invariant-loop : goal.invariant-loop
invariant-loop g l = KeepsAccount (table_of l.initial.self) (table_of l.self)
