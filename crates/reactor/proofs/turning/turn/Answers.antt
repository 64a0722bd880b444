use Rattle.std.proofs.Common.{rules, arith, refl, [], true, sym, ◌∙◌, ◌≡◌, inl, inr, true≢false}
use Rattle.reactor.specs.Link.{link_reads, link_writes}
use Rattle.reactor.specs.Moved.{followed_by, nothing_moved}
use Rattle.reactor.proofs.MovedLemmas.{grows_none, moved_still, moved_then}
use Rattle.reactor.proofs.TurnLemmas.{behind_once, leaves_more, turns_on}
use Rattle.reactor.proofs.turning.turn.Goals as goal
use Rattle.reactor.proofs.turning.turn.Goals.{in-Went, in-Followed}

pub loop-pieces-init : goal.loop-pieces-init
loop-pieces-init g c = record {
  moved = (
    nothing_moved,
    moved_still [] (g.met.H.Host.goes_nowhere c.args.then c.args.host.now c.args.machine.now) (grows_none refl),
    omega arith,
    omega arith,
    (λ is. absurd (true≢false (sym is)), λ some. absurd (omega (arith, some))),
    λ some. absurd (omega (arith, some)),
  );
  ended = λ e. search rules;
  closed = λ is. (c.requires.reads, is);
  room = c.requires.room;
  len = refl;
}

pub returns-in-Stops-clause-turned : goal.returns-in-Stops-clause-turned
returns-in-Stops-clause-turned g c =
    let before = c.loop-pieces.invariant.moved in
    let more = c.in-Stops.ensures.worked in
    let closes = λ (is : g.M.Machine.is_closed c.loop-pieces.machine ≡ true).
    g.met.H.Host.stays_closed c.args.then c.loop-pieces.host c.work.new.host c.loop-pieces.machine c.work.new.machine more.0 is more.1.goes in
    let behind = behind_once before.0.behind more.0.behind _ c.loop-pieces.is_followed c.loop-pieces.is_followed _ _ before.3 more.3 before.4 before.5
    (λ is. ((closes is).1, (closes is).2)) (inl (more.2.1, refl)) in (
      followed_by before.0 more.0,
      moved_then (g.met.H.Host.goes_on c.args.then c.args.host.now c.loop-pieces.host c.work.new.host c.args.machine.now c.loop-pieces.machine c.work.new.machine before.0 more.0)
          before.1 more.1,
      leaves_more g.M.Machine.takes g.M.Machine.waiting (g.H.Host.idle c.args.then) (g.H.Host.rests c.args.then c.work.new.host) (g.H.Host.is_done c.args.then) g.H.Host.is_starved
          (link_reads c.work.new.link) (link_writes c.work.new.link) c.work.new.machine before.0 more.0 c.in-Stops.fate more.2.0,
      omega (arith, behind.0, c.loop-pieces.invariant.len),
      behind.1,
    )

pub loop-pieces-preserved : goal.loop-pieces-preserved
loop-pieces-preserved g c =
    let before = c.loop-pieces.invariant.moved in
    let law = g.met.H.Host in
    record {
      moved = elim c.match-work.branch [
        | in-Went w ↦ let more = w.in-Went.ensures.worked in
            turns_on g.M.Machine.is_closed c.loop-pieces.pieces _ _ c.loop-pieces.is_followed c.match-work.is_followed before.0 more.0
            (law.goes_on c.args.then _ _ _ _ _ _ before.0 more.0) (law.stays_closed c.args.then _ _ _ _ more.0) c.work.ensures.len (before.1, before.2, before.3, before.4, before.5)
            more.1 more.3 more.2.0 (inl (more.2.1, w.is_followed-is))
        | in-Followed w ↦ let more = w.in-Followed.ensures.worked in
            turns_on g.M.Machine.is_closed c.loop-pieces.pieces _ _ c.loop-pieces.is_followed c.match-work.is_followed before.0 more.0
            (law.goes_on c.args.then _ _ _ _ _ _ before.0 more.0) (law.stays_closed c.args.then _ _ _ _ more.0) c.work.ensures.len (before.1, before.2, before.3, before.4, before.5)
            more.1 more.3 more.2.1 (inr (more.2.0, more.2.2, w.is_followed-is))
      ];
      ended = c.work.ensures.ended c.loop-pieces.invariant.ended;
      closed = λ is.
          let still = c.loop-pieces.invariant.closed is in
          (c.work.ensures.closed still.1 ∙ still.0, (law.stays_closed c.args.then _ _ _ _ c.work.ensures.worked.0 still.1 c.work.ensures.worked.1.goes).2);
      room = omega (arith, c.work.ensures.len, c.loop-pieces.invariant.room);
      len = c.work.ensures.len ∙ c.loop-pieces.invariant.len;
    }

pub returns-clause-turned : goal.returns-clause-turned
returns-clause-turned g c =
    let before = c.loop-pieces.invariant.moved in (
      before.0,
      before.1,
      inr (inr (omega (arith, before.2, c.loop-pieces-test.false))),
      omega (arith, before.3, c.loop-pieces.invariant.len),
      before.4,
    )
