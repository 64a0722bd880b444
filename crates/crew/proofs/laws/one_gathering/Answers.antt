use Rattle.crew.specs.declared.crew_why.CrewWhy.TheVariants.{NoMemory}
use Rattle.crew.specs.Gather.{numbers_of}
use Rattle.crew.specs.Gather.Fails.{HasNoFault}
use Rattle.crew.proofs.OneGathering.{one_list, one_why}
use Rattle.crew.proofs.laws.one_gathering.Goals as goal

pub returns-clause-ends : goal.returns-clause-ends
returns-clause-ends c = one_list

pub returns-clause-why : goal.returns-clause-why
returns-clause-why c = one_why

pub returns-clause-no_memory : goal.returns-clause-no_memory
returns-clause-no_memory c = λ expected reports ends why gathered fails. one_why expected (numbers_of reports) why NoMemory fails (HasNoFault gathered.whole)
