use Rattle.std.proofs.Common.{◌/◌, ◌%◌, ◌^◌, ◌*◌, ap, ◌∙◌}
use Rattle.desk_core.specs.Board.{status_of_code}
use Rattle.desk_core.proofs.BoardLemmas.{four_is}
use Rattle.desk_core.proofs.status_word.StatusWord.get.Goals as goal

pub returns : goal.returns
returns c =
    c.status_of_code.ensures
    ∙ ap (λ word. status_of_code (word / 2 ^ (2 * c.number.result) % 4)) c.self.view_is
    ∙ ap (λ k. status_of_code (c.args.self / 2 ^ (2 * k) % 4)) c.number.ensures.value
    ∙ ap (λ weight. status_of_code (c.args.self / weight % 4)) (four_is c.args.slot)
