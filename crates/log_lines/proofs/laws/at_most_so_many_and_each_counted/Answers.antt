use Rattle.log_lines.proofs.LawLemmas.{counted, most}
use Rattle.log_lines.proofs.laws.at_most_so_many_and_each_counted.Goals as goal

pub returns-clause-most : goal.returns-clause-most
returns-clause-most c = most

pub returns-clause-counted : goal.returns-clause-counted
returns-clause-counted c = counted
