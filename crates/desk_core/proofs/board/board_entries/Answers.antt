use Rattle.desk_core.proofs.ReadingLemmas.{read_entries}
use Rattle.desk_core.proofs.board.board_entries.Goals as goal

pub returns-clause-board : goal.returns-clause-board
returns-clause-board c entries is = read_entries entries c.args.word is
