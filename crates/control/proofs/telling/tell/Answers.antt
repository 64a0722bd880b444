use Rattle.std.proofs.Common.{refl, sym, true≢false}
use Rattle.std.proofs.KnownBytes.{Keeps-refl}
use Rattle.control.proofs.telling.tell.Goals as goal

pub returns-in-Err-clause-fault : goal.returns-in-Err-clause-fault
returns-in-Err-clause-fault g c = (rw (c.deref.ensures.value, c.in_ok-text.ensures) at c.in-Err.ensures.err, Keeps-refl (g.R.Read.remaining c.args.reader.now))

pub returns-then-is_silent-clause-sent : goal.returns-then-is_silent-clause-sent
returns-then-is_silent-clause-sent g c = rw (c.deref.ensures.value, c.in_ok-text.ensures) at c.in_default.ensures.ok

pub returns-then-is_silent-clause-answered : goal.returns-then-is_silent-clause-answered
returns-then-is_silent-clause-answered g c = (c.if-is_silent.ensures.0 refl, Keeps-refl (g.R.Read.remaining c.args.reader.now))

pub read_line-requires-clause-room : goal.read_line-requires-clause-room
read_line-requires-clause-room g c = c.in_ok-answer.ensures.capacity

pub read_line-requires-clause-empty : goal.read_line-requires-clause-empty
read_line-requires-clause-empty g c = c.in_ok-answer.ensures.items

pub returns-in-Ok-LineFeed-clause-sent : goal.returns-in-Ok-LineFeed-clause-sent
returns-in-Ok-LineFeed-clause-sent g c = rw (c.deref.ensures.value, c.in_ok-text.ensures) at c.in_default.ensures.ok

pub returns-in-Ok-LineFeed-clause-answered : goal.returns-in-Ok-LineFeed-clause-answered
returns-in-Ok-LineFeed-clause-answered g c =
    let read = rw c.in-Ok-LineFeed.field-0-is at c.in-Ok-LineFeed.ensures.ok in
    (λ silent. true≢false (sym (c.if-is_silent.ensures.1 silent)), record { consumed = read.0; part = c.in-Ok-LineFeed.ensures.part; short = read.1 })

pub returns-in-Ok-Input-clause-fault : goal.returns-in-Ok-Input-clause-fault
returns-in-Ok-Input-clause-fault g c =
    let read = rw c.in-Ok-Input.field-0-is at c.in-Ok-Input.ensures.ok in (
      rw (c.deref.ensures.value, c.in_ok-text.ensures) at c.in_default.ensures.ok,
      (c.read_line.new.line.items, record { consumed = read.0; part = c.in-Ok-Input.ensures.part }, read.2),
      read.1,
    )

pub returns-in-Ok-TooLong-clause-fault : goal.returns-in-Ok-TooLong-clause-fault
returns-in-Ok-TooLong-clause-fault g c =
    let read = rw c.in-Ok-TooLong.field-0-is at c.in-Ok-TooLong.ensures.ok in (
      rw (c.deref.ensures.value, c.in_ok-text.ensures) at c.in_default.ensures.ok,
      (c.read_line.new.line.items, record { consumed = read.0; part = c.in-Ok-TooLong.ensures.part }, read.1),
    )

pub returns-clause-fault : goal.returns-clause-fault
returns-clause-fault g c = (
  rw (c.deref.ensures.value, c.in_ok-text.ensures) at c.in_default.ensures.ok,
  (c.read_line.new.line.items, record { consumed = c.in-Err-read_line.ensures.err; part = c.in-Err-read_line.ensures.part }, rw c.read_line.new.line.ok.0 at c.in-Err-read_line.ensures.short),
)
