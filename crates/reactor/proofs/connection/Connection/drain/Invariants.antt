use Rattle.std.proofs.Common.{◌≡◌, ◌<◌, ℕ, List, length}
use Rattle.reactor.specs.Connection.{HasThrown, state_of}
use Rattle.reactor.proofs.connection.Connection.drain.Given as goal

abbrev pub invariant-loop : goal.invariant-loop
invariant-loop g l = record {
  state : state_of l.self ≡ state_of l.initial.self;
  thrown : (thrown : List ℕ) × HasThrown g.S.Stream.remaining g.S.Stream.contents l.initial.self l.self thrown;
  len : length l.buffer ≡ length l.initial.buffer;
  room : 0 < length l.buffer;
}
