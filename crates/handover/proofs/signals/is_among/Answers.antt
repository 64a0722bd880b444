use Rattle.handover.proofs.SignalLemmas.{among_by, among_none}
use Rattle.handover.proofs.signals.is_among.Goals as goal

pub returns-in-Some : goal.returns-in-Some
returns-in-Some c = among_by c.args.signals c.args.text.now c.args.name.now c.in-Some.mask c.in-Some.ensures.some

pub returns-in-None : goal.returns-in-None
returns-in-None c = among_none c.args.signals c.args.text.now c.args.name.now c.in-None.ensures.none
