use Rattle.std.proofs.Common.{sym, subst}
use Rattle.script.proofs.ExpectedLemmas.{each_once}
use Rattle.script.specs.Expected.{AreEachOnce}
use Rattle.script.proofs.expected.all_expected.Goals as goal

pub returns-clause-each : goal.returns-clause-each
returns-clause-each c =
    subst (λ items. AreEachOnce items) (sym c.loop-number.invariant) (each_once c.args.catalogue.now c.args.lines.now c.args.expectations.now c.loop-number.number)
