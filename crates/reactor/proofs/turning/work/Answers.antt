use Rattle.std.proofs.Common.{rules, arith, refl, sym, ap, subst, [], ◌≢◌}
use Rattle.reactor.specs.Link.{link_reads, link_writes}
use Rattle.reactor.specs.Moved.{nothing_moved, only_read, only_sent}
use Rattle.reactor.proofs.MovedLemmas.{moved_behind, moved_read, moved_sent}
use Rattle.reactor.proofs.TurnLemmas.{is_none, owes, reads_to_its_end, stopped_writing}
use Rattle.reactor.proofs.turning.work.Goals as goal

pub returns-then-send_some-clause-worked : goal.returns-then-send_some-clause-worked
returns-then-send_some-clause-worked g c =
    let sent = c.if-send_some.ensures.sent in (
      only_sent sent.0,
      moved_sent sent.0 sent.2 c.send_some.ensures.remaining (g.met.H.Host.goes_alone c.args.then c.args.host.now c.args.machine.now c.send_some.new.machine (only_sent sent.0) sent.3)
          sent.4,
      (omega (arith, sent.1), refl),
      omega arith,
    )

pub returns-then-not-is_empty-clause-worked : goal.returns-then-not-is_empty-clause-worked
returns-then-not-is_empty-clause-worked g c =
    let stopped = c.if-send_some.ensures.stopped in
    let left : g.M.Machine.waiting c.args.machine.now ≢ [] = search rules in (
      nothing_moved,
      stopped_writing stopped.0 (ap (λ past. past.moved) stopped.1) c.send_some.ensures.remaining stopped.3
          (g.met.H.Host.goes_nowhere c.args.then c.args.host.now c.args.machine.now),
      (
        rw c.fate_of.ensures (rw c.writes.ensures (owes g.M.Machine.takes g.M.Machine.waiting (g.H.Host.idle c.args.then) (g.H.Host.rests c.args.then c.args.host.now) (g.H.Host.is_done c.args.then) g.H.Host.is_starved
            (link_reads c.send_some.new.link) (link_writes c.send_some.new.link) c.send_some.new.machine nothing_moved
            (subst (λ m. g.M.Machine.waiting m ≢ []) (sym stopped.0) left) stopped.2)),
        refl,
      ),
      omega arith,
    )

pub returns-in-Some-true-clause-worked : goal.returns-in-Some-true-clause-worked
returns-in-Some-true-clause-worked g c =
    let read = c.in-Some-true.ensures.read in
    let some = read.3.0 c.in-Some-true.field-0-test in (
      only_read read.0 read.1,
      moved_behind (g.met.H.Host.goes_on c.args.then c.args.host.now c.take_step.new.host c.take_step.new.host c.args.machine.now c.take_step.new.machine c.read_some.new.machine nothing_moved (only_read read.0 read.1))
          c.in-Wants.ensures.goes c.in-Wants.ensures.grows
          (moved_read read.0 read.1 read.2.has_read c.read_some.ensures.contents
          (g.met.H.Host.goes_alone c.args.then c.take_step.new.host c.take_step.new.machine c.read_some.new.machine (only_read read.0 read.1) read.2.moved) read.2.grows),
      (some, omega (arith, read.2.some), read.2.closed some),
      read.4,
    )

pub returns-in-Some-false-clause-worked : goal.returns-in-Some-false-clause-worked
returns-in-Some-false-clause-worked g c =
    let read = c.in-Some-false.ensures.read in (
      only_read read.0 read.1,
      moved_behind (g.met.H.Host.goes_on c.args.then c.args.host.now c.take_step.new.host c.take_step.new.host c.args.machine.now c.take_step.new.machine c.read_some.new.machine nothing_moved (only_read read.0 read.1))
          c.in-Wants.ensures.goes c.in-Wants.ensures.grows
          (moved_read read.0 read.1 read.2.has_read c.read_some.ensures.contents
          (g.met.H.Host.goes_alone c.args.then c.take_step.new.host c.take_step.new.machine c.read_some.new.machine (only_read read.0 read.1) read.2.moved) read.2.grows),
      (omega (arith, read.2.some), is_none read.1 c.in-Some-false.field-0 c.in-Some-false.field-0-test read.3.1),
      read.4,
    )

pub returns-in-None-clause-worked : goal.returns-in-None-clause-worked
returns-in-None-clause-worked g c =
    let stopped = c.in-None.ensures.stopped in
    reads_to_its_end g.M.Machine.takes g.M.Machine.waiting (g.H.Host.idle c.args.then) (g.H.Host.rests c.args.then c.take_step.new.host) (g.H.Host.is_done c.args.then) g.H.Host.is_starved g.M.Machine.is_closed
    c.stop_reading.result c.reads.result c.reads.ensures c.in-Wants.ensures.goes c.in-Wants.ensures.grows c.in-Wants.ensures.leaves stopped.0 (ap (λ past. past.moved) stopped.1) stopped.2 stopped.3
    c.read_some.ensures.ended c.read_some.ensures.contents c.stop_reading.ensures.went
    (λ not. let found = c.stop_reading.ensures.stops not in (found.0, ap (λ past. past.moved) found.1, found.2))
    (λ m n x. g.met.H.Host.goes_alone c.args.then c.take_step.new.host m n x)
    (λ m n o x y. g.met.H.Host.goes_on c.args.then c.args.host.now c.take_step.new.host c.take_step.new.host m n o x y)
