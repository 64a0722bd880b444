use Rattle.std.proofs.Common.{◌≢◌, rules}
use Rattle.script.specs.declared.script.Mode.TheVariants.{Run}
use Rattle.script.proofs.OpeningLemmas.{said_or_all, needed_ok, needed_fault}
use Rattle.script.proofs.opening.read_max.Goals as goal

pub returns-in-Replay : goal.returns-in-Replay
returns-in-Replay c =
    let needed : c.args.mode ≢ Run = search rules in
    record { ok = needed_ok _ _ _ _ c.needed_max.ensures.ok; fault = needed_fault _ _ _ needed c.needed_max.ensures.fault }

pub returns-in_ok-said_max-in-Run-clause-ok : goal.returns-in_ok-said_max-in-Run-clause-ok
returns-in_ok-said_max-in-Run-clause-ok c = rw (c.in-Run.is, c.unwrap_or.ensures) (said_or_all _ _ _ c.in_ok-said_max-in-Run.ensures)
