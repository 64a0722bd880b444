use Rattle.open_files.proofs.LineLemmas.{one_limit_in}
use Rattle.open_files.proofs.laws.one_limit.Goals as goal

pub returns : goal.returns
returns c = one_limit_in
