use Rattle.std.proofs.Common.{string_bytes, codes, sym, arith}
use Rattle.desk_core.specs.Board.{status_in}
use Rattle.control.specs.Text.{listed_from}
use Rattle.control.proofs.TextLemmas.{all_written, pushed, whole_text}
use Rattle.control.proofs.words.list_text.Goals as goal

pub loop-number-preserved : goal.loop-number-preserved
loop-number-preserved c =
    let same = rw c.unwrap-slot.ensures at c.new.ensures.value in
    pushed string_bytes (status_in c.args.board) c.loop-number.number c.args.catalogue.now _ c.loop-number.words.items c.push.new.self.items c.in_ok-listed.field-0
    c.unwrap-name.result.now c.board_status.result c.loop-number.invariant (sym (rw (c.unwrap-name.ensures, same) at c.name.ensures.value))
    (rw same at c.board_status.ensures.value) c.in_ok-listed.ensures c.in_ok-push.ensures.items

pub returns : goal.returns
returns c =
    whole_text string_bytes string_bytes c.loop-number.words.items (listed_from (status_in c.args.board) 0 c.args.catalogue.now) (codes " ") c.join.result
    (rw c.deref.ensures.value at c.join.ensures.ok)
    (all_written string_bytes (status_in c.args.board) c.loop-number.number c.args.catalogue.now _ _ c.loop-number.invariant (omega arith))
