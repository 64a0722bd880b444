use Rattle.std.proofs.Common.{rules}
use Rattle.readout.proofs.NameLemmas.{name_by_parts}
use Rattle.readout.proofs.names.name_of.Goals as goal

pub returns-in_err-name : goal.returns-in_err-name
returns-in_err-name c =
    let name = name_by_parts c.args.word.now _ c.rsplit_once.ensures.cases in
    rw (← name) (grind rules)

pub returns : goal.returns
returns c =
    let name = name_by_parts c.args.word.now _ c.rsplit_once.ensures.cases in
    rw (← name) (grind rules)
