use Rattle.std.proofs.Common.{arith, ◌≡◌, ◌++◌, ◌∷◌, [], get_or, ap, sym, ◌∙◌}
use Rattle.control.proofs.ReadingLemmas.{Consumes-more, failed_more, none_more, part_more, short_more}
use Rattle.control.proofs.reading.read_line.Goals as goal

pub loop-byte-preserved : goal.loop-byte-preserved
loop-byte-preserved g c =
    let pushed : c.push.new.self.items ≡ c.loop-byte.line.items ++ get_or c.read.new.buf 0 0 ∷ [] = rw c.unwrap.ensures at c.push.ensures.items in
    record {
      consumed = Consumes-more _ _ _ _ c.read.new.buf _ _ c.loop-byte.invariant.consumed c.in_ok-read.ensures.bytes.0 c.read.auto.buf c.if-branch-eq0.false pushed;
      part = part_more _ _ _ c.loop-byte.invariant.part c.if-byte-eq10.false pushed;
      short = short_more _ _ _ _ (c.len.ensures ∙ c.loop-byte.line.ok.0) c.loop-byte-test.true pushed;
      room = omega arith;
    }

pub returns-in_err-read-clause-err : goal.returns-in_err-read-clause-err
returns-in_err-read-clause-err g c = failed_more _ _ _ _ _ c.loop-byte.invariant.consumed c.in_err-read.ensures.bytes

pub returns-then-branch-eq0-clause-ok : goal.returns-then-branch-eq0-clause-ok
returns-then-branch-eq0-clause-ok g c = (
  none_more _ _ _ _ c.read.new.buf _ c.loop-byte.invariant.consumed c.in_ok-read.ensures.bytes.0 c.if-branch-eq0.true,
  c.in_ok-read.ensures.bytes.1 c.if-branch-eq0.true (omega (arith, c.read.auto.buf)),
  omega arith,
)

pub returns-then-byte-eq10-clause-ok : goal.returns-then-byte-eq10-clause-ok
returns-then-byte-eq10-clause-ok g c = (
  Consumes-more _ _ _ _ c.read.new.buf _ _ c.loop-byte.invariant.consumed c.in_ok-read.ensures.bytes.0 c.read.auto.buf c.if-branch-eq0.false
      (ap (λ byte. c.loop-byte.line.items ++ byte ∷ []) (sym c.if-byte-eq10.true)),
  omega arith,
)
