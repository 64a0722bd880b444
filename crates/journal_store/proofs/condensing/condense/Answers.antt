use Rattle.std.proofs.Common.{◌∙◌, sym, arith}
use Rattle.std.proofs.lemmas.List.{length-map}
use Rattle.desk_core.specs.Past.{past}
use Rattle.journal_store.specs.Record.{restored, restored_of}
use Rattle.journal_store.proofs.condensing.condense.Goals as goal

pub next-requires : goal.next-requires
next-requires c = omega (arith, c.if-len-taken.false, c.len.ensures, c.len-2.ensures)

pub returns-clause-next : goal.returns-clause-next
returns-clause-next c = record {
  names = c.in_ok-preface.ensures.names;
  condensed = sym (c.len-2.ensures ∙ c.in-Ok.short.ok.0) ∙ c.in_ok-preface.ensures.condensed;
  base = omega (arith, c.in_ok-preface.ensures.base, c.len-2.ensures, c.in-Ok.short.ok.0, length-map c.args.taken.now restored);
}

pub returns-clause-legal : goal.returns-clause-legal
returns-clause-legal c = c.in_ok-digest.ensures.some.legal

pub returns-clause-alike : goal.returns-clause-alike
returns-clause-alike c = c.in-Ok.ensures.alike (past (restored_of c.args.taken.now)) c.in_ok-digest.ensures.some

pub returns-clause-shorter : goal.returns-clause-shorter
returns-clause-shorter c = omega (arith, c.in_ok-preface.ensures.base, c.if-len-taken.false, c.len.ensures, c.len-2.ensures)
