use Rattle.std.proofs.Common.{◌≡◌, refl, sym, ap, subst, ◌∙◌, Bool, true≢false, [], None, inl, inr, true, false, rules, arith}
use Rattle.std.proofs.KnownBytes.{Consumes-nil}
use Rattle.std.specs.Io.KnownBytes.{Appends, Consumes}
use Rattle.web_call.specs.Answer.{Source}
use Rattle.web_call.specs.declared.exchanging.Why.{Why}
use Rattle.web_call.specs.declared.exchanging.Why.TheVariants as whys
use Rattle.web_call.specs.Exchange.{Meets, ReadsCut, Starves}
use Rattle.web_call.specs.Past.{CarriesFor, begun, with_asked, with_received}
use Rattle.web_call.specs.Pieces.{text_of}
use Rattle.web_call.specs.Stages.{is_watching, ending_of}
use Rattle.web_call.specs.Tap.{tap_inner}
use Rattle.web_call.proofs.ExchangeLemmas.{so_replied, so_sent, so_stepped}
use Rattle.web_call.proofs.WalkLemmas.{AsksDoor-none}
use Rattle.web_call.proofs.WholeCallLemmas.{cut_of, cut_written, read_cut, starved_at, whole_of}
use Rattle.web_call.proofs.exchanging.exchange.Goals as goal

-- a source of nothing
nowhere : Source
nowhere = record { names = []; kept = None; is_plain = false }

-- a fault has one cause
abbrev is_read : Why → Bool
is_read whys.Read = true
is_read whys.Write = false
is_read whys.NoMemory = false

abbrev is_write : Why → Bool
is_write whys.Read = false
is_write whys.Write = true
is_write whys.NoMemory = false

abbrev is_no_memory : Why → Bool
is_no_memory whys.Read = false
is_no_memory whys.Write = false
is_no_memory whys.NoMemory = true

other_why : (says : Why → Bool) (why made asked : Why) → why ≡ made → why ≡ asked → says made ≡ false → says asked ≡ true → ⊥
other_why says why made asked of is differs so = true≢false (sym so ∙ ap says (sym is ∙ of) ∙ differs)

pub returns-then-not-receive-clause-read : goal.returns-then-not-receive-clause-read
returns-then-not-receive-clause-read g c = λ _.
    let r = c.receive.ensures.received in
    let cut : ReadsCut (g.R.Read.remaining (tap_inner c.args.reader.now)) (g.R.Read.remaining (tap_inner c.receive.new.reader)) = record {
      bytes = r.0;
      is_cut = read_cut nowhere (with_received r.0 begun) c.receive.new.call c.if-not-receive.ensures.is_open (r.2 nowhere begun (c.in-Ok.ensures.begun nowhere));
      has_read = r.1;
    } in
    (ap (λ fault. fault.frames) c.read.ensures, c.if-not-receive.ensures.cause, cut, refl, refl, refl)

pub returns-then-is_starved-clause-no_memory : goal.returns-then-is_starved-clause-no_memory
returns-then-is_starved-clause-no_memory g c = λ _.
    let r = c.receive.ensures.received in
    let a = c.reply.ensures.asked in
    let source : Source = record { names = g.D.Door.names c.args.door.now; kept = g.D.Door.kept; is_plain = g.D.Door.is_plain } in
    let past = with_asked a.0 (with_received r.0 begun) in
    let starves : Starves g.D.Door.is_plain g.D.Door.seen g.D.Door.follows c.args.door.now c.reply.new.door (g.R.Read.remaining (tap_inner c.args.reader.now))
    (g.R.Read.remaining (tap_inner c.receive.new.reader)) = record {
      bytes = r.0;
      asked = a.0;
      at = inr (starved_at source past c.reply.new.call (search rules) (a.3 (with_received r.0 begun) (r.2 source begun (c.in-Ok.ensures.begun source))));
      asks = a.2;
      has_read = r.1;
    } in
    (ap (λ fault. fault.frames) c.no_memory-then-is_starved.ensures, starves, refl, refl, search rules)

pub loop-is_sent-init : goal.loop-is_sent-init
loop-is_sent-init g c =
    let r = c.receive.ensures.received in
    let a = c.reply.ensures.asked in
    let sent = c.send-is_sent.ensures.sent in
    let source : Source = record { names = g.D.Door.names c.args.door.now; kept = g.D.Door.kept; is_plain = g.D.Door.is_plain } in record {
      so_far = so_sent {call = c.reply.new.call} {new = c.send-is_sent.new.call} sent.0
          (so_replied c.in-Ok.call c.receive.new.call c.reply.new.call r.0 a.0 (c.in-Ok.ensures.begun source) r.1 r.2 a.1 a.2 a.3 c.reply.ensures.no_end)
          sent.1 sent.2 c.send-is_sent.ensures.watching c.send-is_sent.ensures.ending;
      answered = c.send-is_sent.ensures.answered ∙ (search rules);
      told = search rules;
      kept = search rules;
      failed = search rules;
      idle = search rules;
      some = search rules;
      most = omega arith;
      names = search rules;
      stays = search rules;
    }

pub loop-is_sent-preserved : goal.loop-is_sent-preserved
loop-is_sent-preserved g c =
    let before = c.loop-is_sent.invariant in
    let a = c.step-had.ensures.asked in
    let sent = c.send-is_sent-in-loop-is_sent.ensures.sent in
    let carries = subst (λ names. CarriesFor (record { names = names; kept = g.D.Door.kept; is_plain = g.D.Door.is_plain }) c.loop-is_sent.call c.step-had.new.call (with_asked a.0)) before.names a.2 in
    let watching : is_watching c.loop-is_sent.call ≡ true = search rules in record {
      so_far = so_sent {call = c.step-had.new.call} {new = c.send-is_sent-in-loop-is_sent.new.call} sent.0
          (so_stepped {call = c.loop-is_sent.call} {new = c.step-had.new.call} a.0 before.so_far watching a.1 carries a.3 a.4 c.step-had.ensures.most c.step-had.ensures.ends)
          sent.1 sent.2 c.send-is_sent-in-loop-is_sent.ensures.watching c.send-is_sent-in-loop-is_sent.ensures.ending;
      answered = c.send-is_sent-in-loop-is_sent.ensures.answered ∙ c.step-had.ensures.answered;
      told = search rules;
      kept = search rules;
      failed = search rules;
      idle = c.send-is_sent-in-loop-is_sent.ensures.idle ∙ before.idle;
      some = search rules;
      most = c.step-had.ensures.most;
      names = c.step-had.ensures.names ∙ before.names;
      stays = g.D.Door.stays_on _ _ _ before.stays c.step-had.ensures.stays;
    }

pub returns-in-Some-clause-ok : goal.returns-in-Some-clause-ok
returns-in-Some-clause-ok g c =
    let s = c.loop-is_sent.invariant.so_far in
    let w = whole_of (record { names = g.D.Door.names c.args.door.now; kept = g.D.Door.kept; is_plain = g.D.Door.is_plain }) s.past c.loop-is_sent.call c.in-Some.outcome (search rules) s.stands in (
      w.1.head,
      w.1.body,
      s.past.asked,
      w.1.pieces,
      w.1.requested.is_head,
      subst (Consumes (g.R.Read.remaining (tap_inner c.args.reader.now)) (g.R.Read.remaining (tap_inner c.receive.new.reader))) w.1.requested.is s.has_read,
      subst (λ ending. Meets g.D.Door.seen g.D.Door.follows g.B.Bell.given g.B.Bell.is_over c.args.limits.looks c.args.door.now c.loop-is_sent.door
          c.args.bell.now c.loop-is_sent.bell s.past.asked ending) w.0 s.meets,
      w.1.answered,
      subst (Appends (g.W.Write.contents (tap_inner c.args.writer.now)) (g.W.Write.contents (tap_inner c.loop-is_sent.writer))) w.1.all_sent s.wrote,
    )

pub returns-clause-write : goal.returns-clause-write
returns-clause-write g c = λ _.
    let s = c.loop-is_sent.invariant.so_far in
    let unsent : c.loop-is_sent.is_sent ≡ false = search rules in
    let cut = cut_of (record { names = g.D.Door.names c.args.door.now; kept = g.D.Door.kept; is_plain = g.D.Door.is_plain }) s.past c.loop-is_sent.call c.loop-is_sent.invariant.answered s.stands in (
      c.loop-is_sent.invariant.failed unsent,
      search rules,
      (
        cut.0.head,
        cut.0.body,
        s.past.asked,
        cut.0.done,
        cut.0.part,
        ending_of c.loop-is_sent.call,
        cut.0.requested.is_head,
        subst (Consumes (g.R.Read.remaining (tap_inner c.args.reader.now)) (g.R.Read.remaining (tap_inner c.receive.new.reader))) cut.0.requested.is s.has_read,
        s.meets,
        cut.0.sends,
        λ none. c.loop-is_sent.invariant.some unsent (cut.1 ∙ ap text_of none),
        cut_written cut.0 s.wrote (search rules),
      ),
    )

pub returns-in_default-clause-no_memory : goal.returns-in_default-clause-no_memory
returns-in_default-clause-no_memory g c = λ _. (
  ap (λ fault. fault.frames) c.no_memory.ensures,
  record { bytes = []; asked = []; at = inl (refl, refl); asks = AsksDoor-none; has_read = Consumes-nil _ },
  refl,
  refl,
  refl,
)

pub returns-clause-read : goal.returns-clause-read
returns-clause-read g c = λ is. absurd (other_why is_read _ whys.Write whys.Read (ap (λ fault. fault.why) c.write.ensures) is refl refl)

pub returns-clause-no_memory : goal.returns-clause-no_memory
returns-clause-no_memory g c = λ is. absurd (other_why is_no_memory _ whys.Write whys.NoMemory (ap (λ fault. fault.why) c.write.ensures) is refl refl)

pub returns-then-is_starved-clause-read : goal.returns-then-is_starved-clause-read
returns-then-is_starved-clause-read g c = λ is. absurd (other_why is_read _ whys.NoMemory whys.Read (ap (λ fault. fault.why) c.no_memory-then-is_starved.ensures) is refl refl)

pub returns-then-is_starved-clause-write : goal.returns-then-is_starved-clause-write
returns-then-is_starved-clause-write g c = λ is. absurd (other_why is_write _ whys.NoMemory whys.Write (ap (λ fault. fault.why) c.no_memory-then-is_starved.ensures) is refl refl)

pub returns-then-not-receive-clause-no_memory : goal.returns-then-not-receive-clause-no_memory
returns-then-not-receive-clause-no_memory g c = λ is. absurd (other_why is_no_memory _ whys.Read whys.NoMemory (ap (λ fault. fault.why) c.read.ensures) is refl refl)

pub returns-then-not-receive-clause-write : goal.returns-then-not-receive-clause-write
returns-then-not-receive-clause-write g c = λ is. absurd (other_why is_write _ whys.Read whys.Write (ap (λ fault. fault.why) c.read.ensures) is refl refl)

pub returns-in_default-clause-read : goal.returns-in_default-clause-read
returns-in_default-clause-read g c = λ is. absurd (other_why is_read _ whys.NoMemory whys.Read (ap (λ fault. fault.why) c.no_memory.ensures) is refl refl)

pub returns-in_default-clause-write : goal.returns-in_default-clause-write
returns-in_default-clause-write g c = λ is. absurd (other_why is_write _ whys.NoMemory whys.Write (ap (λ fault. fault.why) c.no_memory.ensures) is refl refl)

pub returns-then-not-receive-clause-stays : goal.returns-then-not-receive-clause-stays
returns-then-not-receive-clause-stays g c = g.D.Door.stays_self _
