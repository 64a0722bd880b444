use Rattle.open_files.proofs.LineLemmas.{behind_name, no_word, limit_by, no_limit_by}
use Rattle.open_files.proofs.limits.limit_in.Goals as goal

pub returns-in_err-first_word-clause-none : goal.returns-in_err-first_word-clause-none
returns-in_err-first_word-clause-none c =
    let line = c.args.line.now in
    let columns = c.in_ok-columns.columns in
    let parts = behind_name line c.strip_prefix.result columns c.strip_prefix.ensures.cases c.in_ok-columns.was in
    rw c.from_residual-in_err-first_word.ensures (no_word line columns.now parts (rw c.in_err-first_word.was at c.first_word.ensures.none))

pub returns-clause-some : goal.returns-clause-some
returns-clause-some c =
    let line = c.args.line.now in
    let columns = c.in_ok-columns.columns in
    let parts = behind_name line c.strip_prefix.result columns c.strip_prefix.ensures.cases c.in_ok-columns.was in
    let word = c.in_ok-first_word.field-0 in
    limit_by line columns.now word.now parts (rw c.in_ok-first_word.was at c.first_word.ensures.some) c.limit_of.result c.limit_of.ensures.some

pub returns-clause-none : goal.returns-clause-none
returns-clause-none c =
    let line = c.args.line.now in
    let columns = c.in_ok-columns.columns in
    let parts = behind_name line c.strip_prefix.result columns c.strip_prefix.ensures.cases c.in_ok-columns.was in
    let word = c.in_ok-first_word.field-0 in
    no_limit_by line columns.now word.now parts (rw c.in_ok-first_word.was at c.first_word.ensures.some) c.limit_of.result c.limit_of.ensures.none
