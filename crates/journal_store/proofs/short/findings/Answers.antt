use Rattle.std.proofs.Common.{◌-◌, arith}
use Rattle.journal_store.proofs.MemoryLemmas.{none_found, fails_found, passes_found}
use Rattle.journal_store.proofs.short.findings.Goals as goal

pub returns-then-memory-fall : goal.returns-then-memory-fall
returns-then-memory-fall c some few has =
    none_found c.args.fall c.args.rise c.args.memory c.args.start some few has (omega (arith, c.from-fall.ensures, c.from-rise.ensures, c.if-memory-fall.true))

pub returns-then-memory-fall-2 : goal.returns-then-memory-fall-2
returns-then-memory-fall-2 c some few has =
    fails_found c.args.fall c.args.rise c.args.memory c.args.start some few (omega (arith, c.from-fall.ensures, c.if-memory-fall-2.true)) (omega (arith, c.if-memory-eq0.false))

pub returns-else-memory-fall-2 : goal.returns-else-memory-fall-2
returns-else-memory-fall-2 c some few has =
    passes_found c.args.fall c.args.rise c.args.memory c.from-fall.result (c.args.memory - c.from-fall.result) c.args.start some few has
    (omega (arith, c.from-fall.ensures, c.from-rise.ensures, c.if-memory-fall.false)) (omega (arith, c.from-fall.ensures, c.if-memory-fall-2.false)) c.from-fall.ensures
    (omega (arith, c.from-fall.ensures))
