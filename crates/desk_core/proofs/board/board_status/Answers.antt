use Rattle.std.proofs.Common.{◌≡◌, ◌<◌, ap, ◌∙◌, rules}
use Rattle.desk_core.specs.Board.{status_in}
use Rattle.desk_core.proofs.BoardLemmas.{lower_half}
use Rattle.desk_core.proofs.ReadingLemmas.{read_on_board}
use Rattle.desk_core.proofs.board.board_status.Goals as goal

pub returns : goal.returns
returns c =
    let few : c.args.slot < 16 = search rules in
    let value : c.get.result ≡ status_in c.args.word c.args.slot =
    c.get.ensures ∙ ap (λ word. status_in word c.args.slot) c.on_board.ensures ∙ lower_half c.args.word c.args.slot few in
    record {
      value = value;
      board = λ entries is. value ∙ read_on_board entries c.args.word c.args.slot is few;
    }
