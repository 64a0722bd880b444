use Rattle.commands.proofs.ServiceLemmas.{no_ending}
use Rattle.commands.proofs.service.parse_service.Goals as goal

pub returns-clause-bad : goal.returns-clause-bad
returns-clause-bad c = λ bad. no_ending _ c.in_default.ensures.cases c.in_default-strip_suffix.ensures.cases c.in_default-strip_suffix-2.ensures.cases
