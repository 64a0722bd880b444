use Rattle.open_files.proofs.LineLemmas.{no_limit_in}
use Rattle.open_files.proofs.limits.open_files_in.Goals as goal

pub returns-clause-none : goal.returns-clause-none
returns-clause-none c =
    no_limit_in c.args.text.now c.in_ok-line_in.field-0.now (rw c.in_ok-line_in.was at c.line_in.ensures) c.limit_in.result c.limit_in.ensures.none
