use Rattle.std.proofs.Common.{arith}
use Rattle.std.proofs.lemmas.Grind.{common_steps}
use Rattle.script.specs.Line.{IsLine}
use Rattle.script.specs.Line.IsLine.{RetireLine, OrderLine, CheckLine, OpenLine, BoardLine}
use Rattle.script.proofs.LineLemmas.{read_as}
use Rattle.script.proofs.WordLemmas.{one_word, two_words, first_two}
use Rattle.script.proofs.line.line_of.Goals as goal

pub returns-in-board : goal.returns-in-board
returns-in-board c = rw (one_word c.args.words.now _ _ c.in-board.len_at_least c.in-board.len_below c.in-board.is-board) BoardLine

pub returns-in-register : goal.returns-in-register
returns-in-register c = rw (first_two c.args.words.now _ _ c.in-register.len_at_least c.in-register.is-register) c.register_line.ensures

pub returns-in-step : goal.returns-in-step
returns-in-step c = rw (two_words c.args.words.now _ _ c.in-step.len_at_least c.in-step.len_below c.in-step.is-step) (c.step_line.ensures _)

pub returns-in-Some : goal.returns-in-Some
returns-in-Some c = OrderLine _ _ (rw c.in-Some.is at c.in_ok-order-in_default-words.ensures)

pub returns-in-retire : goal.returns-in-retire
returns-in-retire c =
    read_as (IsLine c.args.catalogue.now) _ _ c.retire_line.result c.retire_line.ensures (rw (two_words c.args.words.now _ _ c.in-retire.len_at_least c.in-retire.len_below c.in-retire.is-retire) (RetireLine _))

pub returns-in-check : goal.returns-in-check
returns-in-check c =
    read_as (IsLine c.args.catalogue.now) _ _ c.check_line.result c.check_line.ensures (rw (two_words c.args.words.now _ _ c.in-check.len_at_least c.in-check.len_below c.in-check.is-check) (CheckLine _))

pub returns-in-open : goal.returns-in-open
returns-in-open c =
    read_as (IsLine c.args.catalogue.now) _ _ c.open_line.result c.open_line.ensures (rw (two_words c.args.words.now _ _ c.in-open.len_at_least c.in-open.len_below c.in-open.is-open) (OpenLine _))

pub returns-in-None : goal.returns-in-None
returns-in-None c = grind (arith, common_steps)
