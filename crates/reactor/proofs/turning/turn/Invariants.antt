use Rattle.std.proofs.Common.{◌-◌, ◌≡◌, ◌≤◌, ◌<◌, ◌↔◌, length, true}
use Rattle.reactor.specs.declared.link.Last.TheVariants.{Went}
use Rattle.reactor.specs.Link.{link_reads}
use Rattle.reactor.specs.Moved.{Moved, done_by}
use Rattle.reactor.specs.Turn.{FindsEnd, HasMoved}
use Rattle.reactor.proofs.turning.turn.Given as goal

abbrev pub invariant-loop-pieces : goal.invariant-loop-pieces
invariant-loop-pieces g l = record {
  moved : (moved : Moved)
      × HasMoved g.S.Stream.remaining g.S.Stream.contents (g.H.Host.goes l.initial.then) l.initial.link l.link l.initial.host l.host l.initial.machine l.machine l.initial.past.moved l.past.moved moved
      × (l.pieces ≤ done_by moved) × (moved.behind ≤ length l.buffer) × ((l.is_followed ≡ true) ↔ (0 < moved.behind))
      × (0 < moved.behind → g.M.Machine.is_closed l.machine ≡ true);
  ended : FindsEnd g.S.Stream.remaining l.link;
  closed : g.M.Machine.is_closed l.initial.machine ≡ true → (link_reads l.link ≡ Went) × (g.M.Machine.is_closed l.machine ≡ true);
  room : 0 < length l.buffer;
  len : length l.buffer ≡ length l.initial.buffer;
}

abbrev pub decreases-loop-pieces : goal.decreases-loop-pieces
decreases-loop-pieces g l = 64 - l.pieces
